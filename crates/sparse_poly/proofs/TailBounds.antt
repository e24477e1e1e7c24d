-- Bounds of the degrees of a tail: in the variable one less, in the others those of the polynomial.
use Rattle.std.proofs.Common.{◌≡◌, ◌<◌, ◌≤◌, ◌-◌, ◌∙◌, ℕ, set, subst, sym, ap, inl, inr, arith}
use Rattle.std.proofs.lemmas.Bool.{cases_eq, cases_lt}
use Rattle.polynomials.specs.Monomials.{Monomial, exponent_of}
use Rattle.polynomials.specs.Polynomials.{Polynomial}
use Rattle.polynomials.specs.Views.{degree_in, tail_in}
use Rattle.polynomials.specs.Fits.{greater_exponents}
use Rattle.polynomials.proofs.Degrees.{degree_in-tail_in}
use Rattle.polynomials.proofs.Exponents.{power_monomial, exponent_of-set_other, exponent_of-power_monomial}
use Rattle.polynomials.proofs.FitsLemmas.{exponent_of-greater}
use Rattle.sparse_poly.proofs.TailFits.{degree_in-without_power}

-- a degree of the tail is at most one less
least_degree : (v : ℕ) (f : Polynomial) → degree_in v (tail_in v f) ≤ degree_in v f - 1
least_degree v f = elim (cases_lt 0 (degree_in v f)) [
  | inl some ↦ let smaller = degree_in-tail_in v f some in omega arith
  | inr none ↦ let most = degree_in-without_power v v (degree_in v f) f in omega arith
]

-- so the degrees of the polynomial without v, and that power of v, are a bound
pub tail_bound : (n v : ℕ) (f : Polynomial) (d : Monomial) (k : ℕ) → v < n → ((u : ℕ) → exponent_of u d ≡ degree_in u f) → k ≡ degree_in v f - 1 → (w : ℕ) → degree_in w (tail_in v f) ≤ exponent_of w (greater_exponents (set d v 0) (power_monomial n v k))
tail_bound n v f d k below is less w =
    let greater = exponent_of-greater w (set d v 0) (power_monomial n v k) in
    elim (cases_eq w v) [
      | inl same ↦
          let power : exponent_of w (power_monomial n v k) ≡ k = ap (λ x. exponent_of x (power_monomial n v k)) same ∙ exponent_of-power_monomial n v k below in
          let least : degree_in w (tail_in v f) ≤ degree_in v f - 1 = subst (λ x. degree_in x (tail_in v f) ≤ degree_in v f - 1) (sym same) (least_degree v f) in
          omega arith
      | inr other ↦
          let kept = exponent_of-set_other v w d other in
          let degree = is w in
          let most = degree_in-without_power w v (degree_in v f) f in
          omega arith
    ]
