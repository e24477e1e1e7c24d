-- Linear polynomials without factors: nothing but themselves and constants.
use Rattle.std.proofs.Common.{◌≡◌, ◌≢◌, ◌⊎◌, inl, inr, ℕ, zero, suc, ◌<◌, false, List, [], sum, replicate, Option, Some, None, Contains, refl, sym, ap, ◌∙◌, subst, arith}
use Rattle.std.proofs.lemmas.Bool.{cases_lt}
use Rattle.polynomials.specs.Primes.{IsPrime}
use Rattle.polynomials.specs.Polynomials.{Polynomial, IsPolynomial, ArePolynomials, product_of, constant_of}
use Rattle.polynomials.specs.Views.{degree_in, lead_in, main_var, is_no_variable, is_constant, IsFreeOf}
use Rattle.polynomials.proofs.ConstantLemmas.{constant_of_free}
use Rattle.polynomials.proofs.Degrees.{lead_in_itself, lead_in_nonzero}
use Rattle.polynomials.proofs.DegreesOfProducts.{degree_of_product}
use Rattle.polynomials.proofs.Coefficients.{IsPolynomial-coefficient_in}
use Rattle.polynomials.proofs.Exponents.{exponent_of-replicate}
use Rattle.polynomials.proofs.MainVariables.{constant_from_free, degree_in_main_var}
use Rattle.polynomials.proofs.Monomialwise.{EachMonomial}
use Rattle.division_rules.specs.Quotients.{quotient_within, without_factors}
use Rattle.division_rules.proofs.Quotients.{IsPolynomial-quotient_within}
use Rattle.division_rules.proofs.QuotientFacts.{quotient_within_nonzero, quotient_within_degree, quotient_within_lead}
use Rattle.division_rules.proofs.Factors.{without_factors_relates}
use Rattle.step_bounds.proofs.FewTerms.{sum_parts}
use Rattle.step_bounds.proofs.Linear.{IsLinearMonomial, IsLinear, linear_degree, linear_lead}

module _ (p n k w : ℕ) (prime : IsPrime p) where
  -- constants are linear
  sum-zeros : (m : ℕ) → sum (replicate m 0) ≡ 0
  sum-zeros zero = refl
  sum-zeros (suc m) = let parts = sum_parts 0 (replicate m 0) in let rest = sum-zeros m in omega (arith, parts, rest)

  pub linear_constant : (q : Polynomial) → IsPolynomial p n q → ((v : ℕ) → IsFreeOf v q) → IsLinear p n k q
  linear_constant q i free = record { canonical = i; monomials = subst (EachMonomial (IsLinearMonomial k)) (sym constant.2) (monomials constant.0) }
    where
      constant : (c : ℕ) × (c < p) × (q ≡ constant_of n c)
      constant = constant_from_free p n q (let many = prime.many in omega (arith, many)) i free

      monomials : (c : ℕ) → EachMonomial (IsLinearMonomial k) (constant_of n c)
      monomials zero = tt
      monomials (suc c) = ((let none = sum-zeros n in omega (arith, none), λ v past. exponent_of-replicate n v), tt)

  -- the quotient of a linear polynomial by one that isn't constant is constant
  quotient_constant : (x b q : Polynomial) → IsLinear p n k x → x ≢ [] → IsPolynomial p n b → is_constant b ≡ false → quotient_within p w x b ≡ Some q → (v : ℕ) → IsFreeOf v q
  quotient_constant x b q of_x some ib varies e v = elim (cases_lt 0 (degree_in v q)) [
    | inl occurs ↦ absurd (clash occurs (main_var b) refl)
    | inr none ↦ omega (arith, none)
  ]
    where
      iq : IsPolynomial p n q
      iq = IsPolynomial-quotient_within p n w x b q (let many = prime.many in omega (arith, many)) of_x.canonical ib e

      q_some : q ≢ []
      q_some = quotient_within_nonzero p n w x b q prime of_x.canonical ib e some

      clash : 0 < degree_in v q → (o : Option ℕ) → main_var b ≡ o → ⊥
      clash occurs None main = let constant = ap is_no_variable main in let d = sym varies ∙ constant in cc
      clash occurs (Some u) main =
          let adds = quotient_within_degree p n w x b q prime of_x.canonical ib e some v in
          let low = linear_degree p n k w prime v x of_x in
          let lead_x = linear_lead p n k w prime v x of_x (omega (arith, adds, occurs)) in
          let b_free : IsFreeOf v b = omega (arith, adds, low, occurs) in
          let leads = quotient_within_lead p n w x b q prime of_x.canonical ib e v ∙ ap (product_of p (lead_in v q)) (lead_in_itself v b b_free) in
          let u_adds = degree_of_product p n u (lead_in v q) b prime (IsPolynomial-coefficient_in v (degree_in v q) p n q iq) ib (lead_in_nonzero v q q_some) (λ null. let z = ap (degree_in u) null in let high = degree_in_main_var u b main in omega (arith, z, high)) in
          let high = degree_in_main_var u b main in
          let none = ap (degree_in u) (sym lead_x.3) ∙ ap (degree_in u) leads in
          let zero_u = constant_of_free u n lead_x.0 in
          omega (arith, u_adds, high, none, zero_u)

  -- what is left of one without factors
  abbrev pub IsLeft : Polynomial → Polynomial → Type 0
  IsLeft x y = IsLinear p n k x → x ≢ [] → IsLinear p n k y × (((v : ℕ) → IsFreeOf v y) ⊎ (y ≡ x))

  pub linear_left : (bs : List Polynomial) → ArePolynomials p n bs → (x : Polynomial) → IsPolynomial p n x → IsLeft x (without_factors p w bs x)
  linear_left bs are x i = without_factors_relates p n w prime bs IsLeft (λ y j of_y some. (of_y, inr refl)) step are x i
    where
      step : (b x q y : Polynomial) → Contains bs b → is_constant b ≡ false → IsPolynomial p n b → IsPolynomial p n x → quotient_within p w x b ≡ Some q → IsLeft q y → IsLeft x y
      step b x q y member varies ib i e left of_x some =
          let free = quotient_constant x b q of_x some ib varies e in
          let iq = IsPolynomial-quotient_within p n w x b q (let many = prime.many in omega (arith, many)) i ib e in
          let made = left (linear_constant q iq free) (quotient_within_nonzero p n w x b q prime i ib e some) in
          (made.0, elim made.1 [ inl constant ↦ inl constant | inr same ↦ inl (λ v. ap (degree_in v) same ∙ free v) ])
