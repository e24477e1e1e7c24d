-- The views of canonical polynomials, and the operations on them.
use Rattle.std.proofs.Common.{◌≡◌, ℕ, ◌<◌, Option, Some, None, option_map, refl, sym, ap, ◌∙◌, arith}
use Rattle.polynomials.specs.Polynomials.{Polynomial, IsPolynomial, variable_power, is_zero}
use Rattle.polynomials.specs.Views.{degree_in, coefficient_in, main_var}
use Rattle.polynomials.specs.Fits.{fits}
use Rattle.polynomials.proofs.Coefficients.{IsPolynomial-coefficient_in}
use Rattle.polynomials.proofs.LeadAndTail.{IsPolynomial-variable_power}
use Rattle.polynomials.proofs.PolynomialRing.{CanonicalPolynomial, polynomial_ring}
use Rattle.division_rules.specs.Operations.{Views, Operations, operations_of}
use Rattle.division_rules.specs.Lists.{variable_or_zero}
use Rattle.division_rules.specs.Quotients.{quotient_within}
use Rattle.division_rules.proofs.Quotients.{IsPolynomial-quotient_within}

-- a polynomial that may be there, with a proof that it is canonical if it is
abbrev pub with_proof : (p n : ℕ) (o : Option Polynomial) → ((q : Polynomial) → o ≡ Some q → IsPolynomial p n q) → Option (CanonicalPolynomial p n)
with_proof p n None canonical = None
with_proof p n (Some q) canonical = Some (q, canonical q refl)

-- without the proof it is what it was
pub with_proof-first : (p n : ℕ) (o : Option Polynomial) (canonical : (q : Polynomial) → o ≡ Some q → IsPolynomial p n q) → option_map (λ x. x.0) (with_proof p n o canonical) ≡ o
with_proof-first p n None canonical = refl
with_proof-first p n (Some q) canonical = refl

module _ (p n : ℕ) (many : 1 < p) where
  -- quotients within a width are canonical
  pub quotient_canonical : (w : ℕ) (f g : CanonicalPolynomial p n) (q : Polynomial) → quotient_within p w f.0 g.0 ≡ Some q → IsPolynomial p n q
  quotient_canonical w f g q e = IsPolynomial-quotient_within p n w f.0 g.0 q (omega arith) f.1 g.1 e

  -- the quotient within a width
  abbrev pub canonical_quotient : ℕ → CanonicalPolynomial p n → CanonicalPolynomial p n → Option (CanonicalPolynomial p n)
  canonical_quotient w f g = with_proof p n (quotient_within p w f.0 g.0) (quotient_canonical w f g)

  -- the views, those of the lists of terms
  abbrev pub canonical_views : Views (CanonicalPolynomial p n)
  canonical_views = record {
    is_nil = λ f. is_zero f.0;
    degree = λ v f. degree_in v f.0;
    coefficient = λ v k f. (coefficient_in v k f.0, IsPolynomial-coefficient_in v k p n f.0 f.1);
    variable_power = λ v k. (variable_power n v k, IsPolynomial-variable_power p n v k many);
    main = λ f. variable_or_zero (main_var f.0);
    fits = λ w f g. fits w f.0 g.0;
    quotient = canonical_quotient;
  }

  -- the operations
  abbrev pub canonical_operations : Operations (CanonicalPolynomial p n)
  canonical_operations = operations_of (polynomial_ring p n many) canonical_views

  -- the quotient is that of the lists of terms
  pub canonical_quotient-first : (w : ℕ) (f g : CanonicalPolynomial p n) → option_map (λ x. x.0) (canonical_quotient w f g) ≡ quotient_within p w f.0 g.0
  canonical_quotient-first w f g = with_proof-first p n (quotient_within p w f.0 g.0) (quotient_canonical w f g)

  -- where there is one, that of the lists of terms is its first part
  pub canonical_quotient_is : (w : ℕ) (f g q : CanonicalPolynomial p n) → canonical_quotient w f g ≡ Some q → quotient_within p w f.0 g.0 ≡ Some q.0
  canonical_quotient_is w f g q e = sym (canonical_quotient-first w f g) ∙ ap (option_map (λ x. x.0)) e
