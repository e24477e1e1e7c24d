-- The quotient within a width is the factor that fits, where there is one.
use Rattle.std.proofs.Common.{◌≡◌, ◌≢◌, ℕ, suc, ◌+◌, ◌*◌, ◌<◌, ◌≤◌, true, false, ◌&&◌, [], ◌∷◌, length, Option, Some, None, refl, sym, ap, ◌∙◌, subst, inl, inr, arith}
use Rattle.std.proofs.lemmas.Bool.{and_parts, and_from}
use Rattle.polynomials.specs.Primes.{IsPrime}
use Rattle.polynomials.specs.Equalities.{same_polynomial_decides}
use Rattle.polynomials.specs.Polynomials.{Polynomial, IsPolynomial, collected, product_of, same_polynomial}
use Rattle.polynomials.specs.Fits.{fits}
use Rattle.polynomials.proofs.Canonical.{IsPolynomial-collected}
use Rattle.polynomials.proofs.SamePolynomials.{collected_itself}
use Rattle.polynomials.proofs.FitsLemmas.{fits_in_each_variable, passes_test}
use Rattle.division_rules.specs.Quotients.{quotient_terms, tested_quotient, quotient_within}
use Rattle.division_rules.proofs.QuotientTerms.{quotient_terms-product, HaveLength-quotient_terms}

-- a quotient that passes the test is one, and fits
pub tested_quotient_is : (p w : ℕ) (f g q r : Polynomial) → tested_quotient p w f g q ≡ Some r → (q ≡ r) × (product_of p r g ≡ f) × (fits w r g ≡ true)
tested_quotient_is p w f g q r e =
    let parts = passes_test (same_polynomial (product_of p q g) f && fits w q g) q r e in
    let tests = and_parts (same_polynomial (product_of p q g) f) (fits w q g) parts.0 in (
      parts.1,
      ap (λ x. product_of p x g) (sym parts.1) ∙ (same_polynomial_decides (product_of p q g) f).0 tests.0,
      subst (λ x. fits w x g ≡ true) parts.1 tests.1,
    )

-- and a quotient that fits passes
pub tested_quotient_passes : (p w : ℕ) (f g q : Polynomial) → product_of p q g ≡ f → fits w q g ≡ true → tested_quotient p w f g q ≡ Some q
tested_quotient_passes p w f g q product fit = ap (λ b. elim b as (λ _. Option Polynomial) [ true ↦ Some q | false ↦ None ]) (and_from (same_polynomial (product_of p q g) f) (fits w q g) ((same_polynomial_decides (product_of p q g) f).1 product) fit)

-- a quotient times the divisor is the dividend
pub quotient_within_exact : (p w : ℕ) (f g q : Polynomial) → quotient_within p w f g ≡ Some q → product_of p q g ≡ f
quotient_within_exact p w f [] q e = cc
quotient_within_exact p w f (u ∷ g) q e = (tested_quotient_is p w f (u ∷ g) (collected p (quotient_terms p u g (suc w) f)) q e).1

-- and the two fit
pub quotient_within_fits : (p w : ℕ) (f g q : Polynomial) → quotient_within p w f g ≡ Some q → fits w q g ≡ true
quotient_within_fits p w f [] q e = cc
quotient_within_fits p w f (u ∷ g) q e = (tested_quotient_is p w f (u ∷ g) (collected p (quotient_terms p u g (suc w) f)) q e).2

-- nothing has a quotient by 0
pub quotient_within_divisor : (p w : ℕ) (f g q : Polynomial) → quotient_within p w f g ≡ Some q → g ≢ []
quotient_within_divisor p w f g q e zero_g =
    let none : quotient_within p w f [] ≡ Some q = ap (quotient_within p w f) (sym zero_g) ∙ e in
    cc

-- a quotient of canonical polynomials is canonical
pub IsPolynomial-quotient_within : (p n w : ℕ) (f g q : Polynomial) → 0 < p → IsPolynomial p n f → IsPolynomial p n g → quotient_within p w f g ≡ Some q → IsPolynomial p n q
IsPolynomial-quotient_within p n w f [] q positive i j e = cc
IsPolynomial-quotient_within p n w f (u ∷ g) q positive i j e = subst (IsPolynomial p n) (tested_quotient_is p w f (u ∷ g) (collected p (quotient_terms p u g (suc w) f)) q e).0 (IsPolynomial-collected p n positive (quotient_terms p u g (suc w) f) (HaveLength-quotient_terms p n u g j positive (suc w) f i))

-- the terms of a quotient that fits are within the width
quotient_length : (w : ℕ) (q g : Polynomial) → g ≢ [] → fits w q g ≡ true → length q ≤ suc w
quotient_length w q [] some fit = absurd (some refl)
quotient_length w [] (u ∷ g) some fit = omega arith
quotient_length w (s ∷ q) (u ∷ g) some fit = elim ((fits_in_each_variable w (s ∷ q) (u ∷ g)).0 fit) [
  | inl none ↦ cc
  | inr (inl none) ↦ cc
  | inr (inr both) ↦
      let product : suc (length q) * suc (length g) ≤ w = both.0 in
      bound (length q) (length g) product
]
  where
    bound : (a b : ℕ) → suc a * suc b ≤ w → suc a ≤ suc w
    bound a b h =
        let multiplied : suc a * suc b ≡ suc a + a * b + b = omega arith in
        omega arith

-- where a canonical q times g is f and fits, q is the quotient
pub quotient_within_found : (p n w : ℕ) (f g q : Polynomial) → IsPrime p → IsPolynomial p n g → IsPolynomial p n q → g ≢ [] → product_of p q g ≡ f → fits w q g ≡ true → quotient_within p w f g ≡ Some q
quotient_within_found p n w f [] q prime j i some product fit = absurd (some refl)
quotient_within_found p n w f (u ∷ g) q prime j i some product fit =
    let terms = ap (quotient_terms p u g (suc w)) (sym product) ∙ quotient_terms-product p n u g j prime (suc w) q i (quotient_length w q (u ∷ g) some fit) in
    ap (tested_quotient p w f (u ∷ g)) (ap (collected p) terms ∙ collected_itself p n q i) ∙ tested_quotient_passes p w f (u ∷ g) q product fit

-- 0 has the quotient 0
pub quotient_within_of_zero : (p w : ℕ) (g : Polynomial) → g ≢ [] → quotient_within p w [] g ≡ Some []
quotient_within_of_zero p w [] some = absurd (some refl)
quotient_within_of_zero p w (u ∷ g) some = refl
