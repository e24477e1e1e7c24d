-- When there is no quotient within a width, and what fits by its number of terms alone.
use Rattle.std.proofs.Common.{◌≡◌, ◌≢◌, ◌↔◌, ℕ, ◌*◌, ◌<◌, ◌≤◌, true, [], length, Option, Some, None, refl, sym, ap, ◌∙◌, subst, inl, inr, arith}
use Rattle.polynomials.specs.Primes.{IsPrime}
use Rattle.polynomials.specs.Polynomials.{Polynomial, IsPolynomial, product_of}
use Rattle.polynomials.specs.Views.{degree_in}
use Rattle.polynomials.specs.Fits.{fits}
use Rattle.polynomials.proofs.FitsLemmas.{fits_in_each_variable}
use Rattle.polynomials.proofs.QuotientLemmas.{quotient_degree}
use Rattle.division_rules.specs.Quotients.{quotient_within}
use Rattle.division_rules.proofs.Quotients.{quotient_within_exact, quotient_within_fits, quotient_within_found, IsPolynomial-quotient_within}

-- there is no quotient where none is the quotient
pub quotient_within_none : (p w : ℕ) (f g : Polynomial) → ((q : Polynomial) → quotient_within p w f g ≡ Some q → ⊥) → quotient_within p w f g ≡ None
quotient_within_none p w f g never = go (quotient_within p w f g) refl
  where
    go : (o : Option Polynomial) → quotient_within p w f g ≡ o → o ≡ None
    go None e = refl
    go (Some q) e = absurd (never q e)

module _ (p n w : ℕ) (f g : Polynomial) (prime : IsPrime p) (i : IsPolynomial p n f) (j : IsPolynomial p n g) (some : g ≢ []) where
  positive : 0 < p
  positive = omega (arith, prime.many)

  -- q is the quotient exactly where it is canonical, q times g is f, and they fit
  pub quotient_within_iff : (q : Polynomial) → (quotient_within p w f g ≡ Some q) ↔ (IsPolynomial p n q × (product_of p q g ≡ f) × (fits w q g ≡ true))
  quotient_within_iff q = (
    λ e. (IsPolynomial-quotient_within p n w f g q positive i j e, quotient_within_exact p w f g q e, quotient_within_fits p w f g q e),
    λ h. quotient_within_found p n w f g q prime j h.0 some h.1 h.2,
  )

  -- and there is none exactly where no q is so
  pub quotient_within_none_iff : (quotient_within p w f g ≡ None) ↔ ((q : Polynomial) → IsPolynomial p n q → product_of p q g ≡ f → fits w q g ≢ true)
  quotient_within_none_iff = (
    λ none q iq product fit. let found = quotient_within_found p n w f g q prime j iq some product fit in cc,
    λ never. quotient_within_none p w f g (λ q e. never q (IsPolynomial-quotient_within p n w f g q positive i j e) (quotient_within_exact p w f g q e) (quotient_within_fits p w f g q e)),
  )

  -- where no exponent of f is greater than 65,535, a factor fits by its number of terms
  pub fits_by_terms : (q : Polynomial) → IsPolynomial p n q → product_of p q g ≡ f → f ≢ [] → ((v : ℕ) → degree_in v f ≤ 65535) → length q * length g ≤ w → fits w q g ≡ true
  fits_by_terms q iq product whole small terms = (fits_in_each_variable w q g).1 (inr (inr (terms, λ v. subst (λ d. d ≤ 65535) (quotient_degree p n q g f prime iq j product whole v) (small v))))

  -- and has no more terms than the width
  pub terms_from_fits : (q : Polynomial) → IsPolynomial p n q → product_of p q g ≡ f → f ≢ [] → fits w q g ≡ true → length q * length g ≤ w
  terms_from_fits q iq product whole fit = elim ((fits_in_each_variable w q g).0 fit) [
    | inl none ↦ absurd (whole (sym product ∙ ap (λ x. product_of p x g) none))
    | inr (inl none) ↦ absurd (some none)
    | inr (inr both) ↦ both.0
  ]
