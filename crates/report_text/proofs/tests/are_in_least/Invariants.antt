-- Each polynomial that was passed has those variables alone.
use Rattle.std.proofs.Common.{ℕ, ◌<◌, get_or}
use Rattle.polynomials.specs.Polynomials.{Polynomial}
use Rattle.report_text.specs.Polynomials.{IsInLeast}
use Rattle.report_text.proofs.tests.are_in_least.Given as goal

abbrev pub invariant-loop-i : goal.invariant-loop-i
invariant-loop-i l = (j : ℕ) (d : Polynomial) → j < l.i → IsInLeast l.k (get_or l.polys j d)
