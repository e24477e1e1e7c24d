-- Zeros of what is left of a polynomial without factors that are not zero.
use Rattle.std.proofs.Common.{◌≡◌, ◌≢◌, inl, inr, ℕ, false, List, [], ◌∷◌, Some, Contains, sym, ap, ◌∙◌}
use Rattle.std.specs.List.{AllByRecursion}
use Rattle.polynomials.specs.Primes.{IsPrime}
use Rattle.polynomials.specs.Polynomials.{Polynomial, IsPolynomial, ArePolynomials}
use Rattle.polynomials.specs.Views.{lead_in, is_constant}
use Rattle.zero_sets.specs.Domains.{Tables, IsFiniteDomain, IsPoint, value_at}
use Rattle.zero_sets.specs.ZeroSets.{AreNonZero}
use Rattle.zero_sets.proofs.ValueLaws.{value_at-monic}
use Rattle.zero_sets.proofs.PointFacts.{product_zero, product_zero_left, product_zero_right}
use Rattle.division_rules.specs.Quotients.{quotient_within, without_factors}
use Rattle.division_rules.proofs.Quotients.{quotient_within_exact}
use Rattle.division_rules.proofs.QuotientFacts.{quotient_within_lead}
use Rattle.division_rules.proofs.Factors.{without_factors_relates, IsPolynomial-without_factors, without_factors_nonzero}
use Rattle.impose_rules.specs.Factors.{stripped}
use Rattle.impose_rules.proofs.Lists.{each_member}
use Rattle.impose_laws.proofs.MonicForms.{lead_in-monic}

-- each is not zero
pub each_nonzero : (r : Tables) (xs : List ℕ) (fs : List Polynomial) → AreNonZero r xs fs → AllByRecursion (λ f. value_at r xs f ≢ r.nil) fs
each_nonzero r xs [] h = tt
each_nonzero r xs (f ∷ fs) h = (h.0, each_nonzero r xs fs h.1)

module _ (p n w : ℕ) (prime : IsPrime p) (r : Tables) (domain : IsFiniteDomain p r) (xs : List ℕ) (point : IsPoint r xs) (bs : List Polynomial) (are : ArePolynomials p n bs) where
  -- it is zero where f is
  pub stripped_zero : AreNonZero r xs bs → (f : Polynomial) → IsPolynomial p n f → value_at r xs f ≡ r.nil → value_at r xs (stripped p w bs f) ≡ r.nil
  stripped_zero nonzero f i z = (value_at-monic p r domain.ring xs point n (without_factors p w bs f) prime (IsPolynomial-without_factors p n w prime bs f are i)).1 (without_factors_relates p n w prime bs (λ x y. value_at r xs x ≡ r.nil → value_at r xs y ≡ r.nil) (λ x j h. h) step are f i z)
    where
      step : (b x q y : Polynomial) → Contains bs b → is_constant b ≡ false → IsPolynomial p n b → IsPolynomial p n x → quotient_within p w x b ≡ Some q → (value_at r xs q ≡ r.nil → value_at r xs y ≡ r.nil) → value_at r xs x ≡ r.nil → value_at r xs y ≡ r.nil
      step b x q y member varies ib j e h zero_x = elim (product_zero p r domain xs point q b (ap (value_at r xs) (quotient_within_exact p w x b q e) ∙ zero_x)) [
        | inl zero_q ↦ h zero_q
        | inr zero_b ↦ absurd (each_member (λ f. value_at r xs f ≢ r.nil) bs b (each_nonzero r xs bs nonzero) member zero_b)
      ]

  -- and its lead is not zero where that of f isn't
  pub stripped_lead : (v : ℕ) (f : Polynomial) → IsPolynomial p n f → f ≢ [] → value_at r xs (lead_in v f) ≢ r.nil → value_at r xs (lead_in v (stripped p w bs f)) ≢ r.nil
  stripped_lead v f i some nonzero = monic_lead (without_factors_relates p n w prime bs (λ x y. value_at r xs (lead_in v x) ≢ r.nil → value_at r xs (lead_in v y) ≢ r.nil) (λ x j h. h) step are f i nonzero)
    where
      step : (b x q y : Polynomial) → Contains bs b → is_constant b ≡ false → IsPolynomial p n b → IsPolynomial p n x → quotient_within p w x b ≡ Some q → (value_at r xs (lead_in v q) ≢ r.nil → value_at r xs (lead_in v y) ≢ r.nil) → value_at r xs (lead_in v x) ≢ r.nil → value_at r xs (lead_in v y) ≢ r.nil
      step b x q y member varies ib j e h lead_x = h (λ zero_q. lead_x (ap (value_at r xs) (quotient_within_lead p n w x b q prime j ib e v) ∙ product_zero_left p r domain.ring xs point (lead_in v q) (lead_in v b) zero_q))

      monic_lead : value_at r xs (lead_in v (without_factors p w bs f)) ≢ r.nil → value_at r xs (lead_in v (stripped p w bs f)) ≢ r.nil
      monic_lead lead_f zero_lead =
          let factor = lead_in-monic p n prime v (without_factors p w bs f) (IsPolynomial-without_factors p n w prime bs f are i) (without_factors_nonzero p n w prime bs f are i some) in
          lead_f (ap (value_at r xs) (sym factor.1) ∙ product_zero_right p r domain.ring xs point factor.0 (lead_in v (stripped p w bs f)) zero_lead)
