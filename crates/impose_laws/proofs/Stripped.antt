-- What is left of a polynomial without factors, made monic: canonical, with no greater degree.
use Rattle.std.proofs.Common.{◌≡◌, ◌≢◌, ℕ, ◌<◌, ◌≤◌, false, List, [], Some, Contains, refl, ap, ◌∙◌, arith}
use Rattle.std.specs.List.{AllByRecursion}
use Rattle.polynomials.specs.Primes.{IsPrime}
use Rattle.polynomials.specs.Polynomials.{Polynomial, IsPolynomial, ArePolynomials}
use Rattle.polynomials.specs.Views.{degree_in, main_var, is_constant, IsFreeOf}
use Rattle.polynomials.proofs.MainVariables.{main_variable_is_greatest}
use Rattle.polynomials.proofs.MonicLemmas.{IsPolynomial-monic}
use Rattle.division_rules.specs.Quotients.{quotient_within, without_factors}
use Rattle.division_rules.proofs.QuotientFacts.{quotient_within_nonzero, quotient_within_degree}
use Rattle.division_rules.proofs.Factors.{without_factors_relates, IsPolynomial-without_factors, degree_in-without_factors}
use Rattle.impose_rules.specs.Factors.{stripped}
use Rattle.impose_rules.proofs.Lists.{each_member}
use Rattle.impose_laws.proofs.MonicForms.{degree_in-monic}

module _ (p n w : ℕ) (prime : IsPrime p) (bs : List Polynomial) (are : ArePolynomials p n bs) where
  -- it is canonical
  pub IsPolynomial-stripped : (f : Polynomial) → IsPolynomial p n f → IsPolynomial p n (stripped p w bs f)
  IsPolynomial-stripped f i = IsPolynomial-monic p n (without_factors p w bs f) prime (IsPolynomial-without_factors p n w prime bs f are i)

  -- no degree rises
  pub degree_in-stripped : (v : ℕ) (f : Polynomial) → IsPolynomial p n f → degree_in v (stripped p w bs f) ≤ degree_in v f
  degree_in-stripped v f i =
      let smaller = degree_in-without_factors p n w prime bs f v are i in
      let same = degree_in-monic p n prime v (without_factors p w bs f) (IsPolynomial-without_factors p n w prime bs f are i) in
      omega arith

  -- so it is without each variable that f is without
  pub stripped_free : (v : ℕ) (f : Polynomial) → IsPolynomial p n f → IsFreeOf v f → IsFreeOf v (stripped p w bs f)
  stripped_free v f i free =
      let smaller = degree_in-stripped v f i in
      omega arith

  -- factors without v leave the degree in v
  pub degree_in-free_factors : (v : ℕ) → AllByRecursion (IsFreeOf v) bs → (f : Polynomial) → IsPolynomial p n f → f ≢ [] → degree_in v (stripped p w bs f) ≡ degree_in v f
  degree_in-free_factors v free f i some = degree_in-monic p n prime v (without_factors p w bs f) (IsPolynomial-without_factors p n w prime bs f are i) ∙ without_factors_relates p n w prime bs (λ x y. x ≢ [] → degree_in v y ≡ degree_in v x) (λ x j h. refl) step are f i some
    where
      step : (b x q y : Polynomial) → Contains bs b → is_constant b ≡ false → IsPolynomial p n b → IsPolynomial p n x → quotient_within p w x b ≡ Some q → (q ≢ [] → degree_in v y ≡ degree_in v q) → x ≢ [] → degree_in v y ≡ degree_in v x
      step b x q y member varies ib j e h some =
          let adds = quotient_within_degree p n w x b q prime j ib e some v in
          let same = h (quotient_within_nonzero p n w x b q prime j ib e some) in
          let none = each_member (IsFreeOf v) bs b free member in
          omega arith

  -- so where v is the main variable it stays that
  pub main_var-stripped : (v : ℕ) → AllByRecursion (IsFreeOf v) bs → (f : Polynomial) → IsPolynomial p n f → main_var f ≡ Some v → main_var (stripped p w bs f) ≡ Some v
  main_var-stripped v free f i e =
      let greatest = (main_variable_is_greatest v f).0 e in
      let same = degree_in-free_factors v free f i (λ none. occurs none greatest.0) in
      (main_variable_is_greatest v (stripped p w bs f)).1 (omega (arith, same, greatest.0), λ x less. stripped_free x f i (greatest.1 x less))
    where
      occurs : f ≡ [] → 0 < degree_in v f → ⊥
      occurs none high = let zero_v = ap (degree_in v) none in omega arith
