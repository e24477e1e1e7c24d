-- The polynomials so far.
use Rattle.std.proofs.Common.{ℕ, ◌<◌, ◌≤◌, slice_index_or}
use Rattle.polynomials.specs.Monomials.{most_exponent}
use Rattle.polynomials.specs.Polynomials.{Polynomial}
use Rattle.polynomials.specs.Views.{degree_in}
use Rattle.case_tree.proofs.cases.facts_of.Given as goal

abbrev pub invariant-loop-i : goal.invariant-loop-i
invariant-loop-i l = (k : ℕ) (d : Polynomial) → k < l.i → (v : ℕ) → degree_in v (slice_index_or l.list k d) ≤ most_exponent
