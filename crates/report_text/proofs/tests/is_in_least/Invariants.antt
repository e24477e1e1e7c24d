-- No variable that was passed occurs.
use Rattle.std.proofs.Common.{◌≡◌, ℕ, ◌<◌, ◌≤◌}
use Rattle.polynomials.specs.Views.{degree_in}
use Rattle.report_text.proofs.tests.is_in_least.Given as goal

abbrev pub invariant-loop-v : goal.invariant-loop-v
invariant-loop-v l = (v : ℕ) → l.fn.k ≤ v → v < l.v → degree_in v l.f ≡ 0
