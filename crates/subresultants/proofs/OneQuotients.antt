-- Quotients by 1 are what is divided.
use Rattle.std.proofs.Common.{◌≡◌, ℕ, List, [], ◌∷◌, Option, Some, None, refl, sym, ap, ap₂, ◌∙◌, unwrap_or}
use Rattle.polynomials.specs.Primes.{IsPrime}
use Rattle.polynomials.specs.Polynomials.{Polynomial, IsPolynomial, ArePolynomials, one_of}
use Rattle.polynomials.proofs.Canonical.{IsPolynomial-one_of}
use Rattle.polynomials.proofs.PolynomialRing.{polynomial_ring}
use Rattle.polynomials.proofs.RingLaws.{times-one}
use Rattle.division_rules.specs.Lists.{list_operations}
use Rattle.division_rules.specs.PolynomialRows.{IsPolynomialRow}
use Rattle.division_rules.specs.Quotients.{quotient_within}
use Rattle.division_rules.specs.RemainderRows.{quotients, divided}
use Rattle.division_rules.specs.Rows.{Row}
use Rattle.division_rules.proofs.Identity.{both-some, row_of-some}
use Rattle.division_rules.proofs.QuotientFacts.{quotient_within_canonical}
use Rattle.division_rules.proofs.Quotients.{quotient_within_exact}

module _ (p n : ℕ) (prime : IsPrime p) (w : ℕ) where
  quotient-one : (f q : Polynomial) → IsPolynomial p n f → quotient_within p w f (one_of n) ≡ Some q → q ≡ f
  quotient-one f q i e =
      let canonical = quotient_within_canonical p n w f (one_of n) q prime i (IsPolynomial-one_of p n prime.many) e in
      sym (ap (λ x. x.0) (times-one (polynomial_ring p n prime.many) (q, canonical))) ∙ quotient_within_exact p w f (one_of n) q e

  quotients-one : (fs qs : List Polynomial) → ArePolynomials p n fs → quotients (list_operations p n) w (one_of n) fs ≡ Some qs → qs ≡ fs
  quotients-one [] qs are e = cc
  quotients-one (f ∷ fs) qs are e =
      let parts = both-some (quotient_within p w f (one_of n)) (quotients (list_operations p n) w (one_of n) fs) qs e in
      parts.4 ∙ ap₂ ◌∷◌ (quotient-one f parts.0 are.0 parts.2) (quotients-one fs parts.1 are.1 parts.3)

  -- of a polynomial
  pub quotient_or_itself-one : (f : Polynomial) → IsPolynomial p n f → unwrap_or (quotient_within p w f (one_of n)) f ≡ f
  quotient_or_itself-one f i = go (quotient_within p w f (one_of n)) refl
    where
      go : (m : Option Polynomial) → quotient_within p w f (one_of n) ≡ m → unwrap_or m f ≡ f
      go None e = refl
      go (Some q) e = quotient-one f q i e

  -- and of a row
  pub divided-one : (f : Row Polynomial) → IsPolynomialRow p n f → unwrap_or (divided (list_operations p n) w (one_of n) f) f ≡ f
  divided-one f i = go (divided (list_operations p n) w (one_of n) f) refl
    where
      go : (m : Option (Row Polynomial)) → divided (list_operations p n) w (one_of n) f ≡ m → unwrap_or m f ≡ f
      go None e = refl
      go (Some h) e =
          let parts = row_of-some (quotient_within p w f.first (one_of n)) (quotients (list_operations p n) w (one_of n) f.cofactors) h e in
          ap₂ (λ (x : Polynomial) (xs : List Polynomial). record { first = x; cofactors = xs }) (quotient-one f.first h.first i.0 parts.0) (quotients-one f.cofactors h.cofactors i.1 parts.1)
