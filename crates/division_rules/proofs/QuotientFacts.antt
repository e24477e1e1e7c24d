-- Degrees, variables and leads of a quotient within a width.
use Rattle.std.proofs.Common.{◌≡◌, ◌≢◌, ◌⊎◌, ℕ, ◌+◌, ◌≤◌, [], ◌∷◌, Some, refl, sym, ap, ◌∙◌, inl, inr, arith}
use Rattle.polynomials.specs.Primes.{IsPrime}
use Rattle.polynomials.specs.Polynomials.{Polynomial, IsPolynomial, product_of}
use Rattle.polynomials.specs.Views.{degree_in, lead_in}
use Rattle.polynomials.proofs.QuotientLemmas.{quotient_degree, quotient_nonzero}
use Rattle.polynomials.proofs.DegreesOfProducts.{lead_multiplies}
use Rattle.division_rules.specs.Quotients.{quotient_within}
use Rattle.division_rules.proofs.Quotients.{quotient_within_exact, quotient_within_divisor, quotient_within_of_zero, IsPolynomial-quotient_within}

module _ (p n w : ℕ) (f g q : Polynomial) (prime : IsPrime p) (i : IsPolynomial p n f) (j : IsPolynomial p n g) (quotient : quotient_within p w f g ≡ Some q) where
  -- the quotient is canonical
  pub quotient_within_canonical : IsPolynomial p n q
  quotient_within_canonical = IsPolynomial-quotient_within p n w f g q (omega (arith, prime.many)) i j quotient

  -- the quotient of what isn't 0 isn't 0
  pub quotient_within_nonzero : f ≢ [] → q ≢ []
  quotient_within_nonzero some = quotient_nonzero p n q g f prime quotient_within_canonical j (quotient_within_exact p w f g q quotient) some

  -- degrees add
  pub quotient_within_degree : f ≢ [] → (v : ℕ) → degree_in v f ≡ degree_in v q + degree_in v g
  quotient_within_degree some v = quotient_degree p n q g f prime quotient_within_canonical j (quotient_within_exact p w f g q quotient) some v

  -- leads multiply
  pub quotient_within_lead : (v : ℕ) → lead_in v f ≡ product_of p (lead_in v q) (lead_in v g)
  quotient_within_lead v = ap (lead_in v) (sym (quotient_within_exact p w f g q quotient)) ∙ lead_multiplies p n v prime q g quotient_within_canonical j

  -- the quotient of 0 is 0
  pub quotient_within_zero : f ≡ [] → q ≡ []
  quotient_within_zero none =
      let same = sym (quotient_within_of_zero p w g (quotient_within_divisor p w f g q quotient)) ∙ ap (λ x. quotient_within p w x g) (sym none) ∙ quotient in
      cc

-- a polynomial is 0 or not
pub zero_or_not : (f : Polynomial) → (f ≡ []) ⊎ (f ≢ [])
zero_or_not [] = inl refl
zero_or_not (t ∷ f) = inr (λ e. cc)

module _ (p n w : ℕ) (f g q : Polynomial) (prime : IsPrime p) (i : IsPolynomial p n f) (j : IsPolynomial p n g) (quotient : quotient_within p w f g ≡ Some q) where
  -- no degree of a quotient is greater
  pub quotient_within_degree_smaller : (v : ℕ) → degree_in v q ≤ degree_in v f
  quotient_within_degree_smaller v = elim (zero_or_not f) [
    | inl none ↦
        let zero_q = ap (degree_in v) (quotient_within_zero p n w f g q prime i j quotient none) in
        omega arith
    | inr some ↦
        let adds = quotient_within_degree p n w f g q prime i j quotient some v in
        omega arith
  ]
