-- A power of a variable fits with monomials where the degree has room.
use Rattle.std.proofs.Common.{◌+◌, ◌<◌, ◌≤◌, ℕ, List, sym, inl, inr, subst, arith}
use Rattle.std.proofs.lemmas.Bool.{cases_eq}
use Rattle.polynomials.specs.Monomials.{exponent_of, most_exponent}
use Rattle.polynomials.specs.Polynomials.{Term}
use Rattle.polynomials.specs.Views.{degree_in}
use Rattle.polynomials.proofs.Exponents.{power_monomial, exponent_of-power_monomial, exponent_of-power_monomial_other}
use Rattle.sparse_poly.specs.Pairs.{FitsEach}
use Rattle.sparse_poly.proofs.FittingPairs.{FitsEach-from_degrees}

-- in each variable the degrees add to what is allowed
pub power_degrees : (n v e : ℕ) (g : List Term) → v < n → ((u : ℕ) → degree_in u g ≤ most_exponent) → e + degree_in v g ≤ 65535 → (w : ℕ) → exponent_of w (power_monomial n v e) + degree_in w g ≤ 65535
power_degrees n v e g below most room w = elim (cases_eq w v) [
  | inl same ↦ subst (λ x. exponent_of x (power_monomial n v e) + degree_in x g ≤ 65535) (sym same) (let itself = exponent_of-power_monomial n v e below in omega arith)
  | inr other ↦ let none = exponent_of-power_monomial_other n v w e other in let bound = most w in omega arith
]

-- so the power fits with each monomial
pub FitsEach-power : (n v e : ℕ) (g : List Term) → v < n → ((u : ℕ) → degree_in u g ≤ most_exponent) → e + degree_in v g ≤ 65535 → FitsEach (power_monomial n v e) g
FitsEach-power n v e g below most room = FitsEach-from_degrees (power_monomial n v e) g (power_degrees n v e g below most room)
