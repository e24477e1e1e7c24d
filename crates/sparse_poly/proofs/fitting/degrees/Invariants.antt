-- The greater of what was found and of what is to come is the degree.
use Rattle.std.proofs.Common.{◌≡◌, ℕ, max, drop}
use Rattle.polynomials.specs.Monomials.{exponent_of}
use Rattle.polynomials.specs.Views.{degree_in}
use Rattle.sparse_poly.proofs.fitting.degrees.Given as goal

abbrev pub invariant-loop-t : goal.invariant-loop-t
invariant-loop-t l = (v : ℕ) → max (exponent_of v l.degrees) (degree_in v (drop l.t-index l.terms)) ≡ degree_in v l.terms
