-- Each division by what isn't constant lowers the sum of the degrees, so the bound on divisions is enough.
use Rattle.std.proofs.Common.{◌≡◌, ◌≢◌, ℕ, zero, suc, ◌+◌, ◌<◌, ◌≤◌, Bool, true, false, List, [], ◌∷◌, ◌++◌, Option, Some, None, sum, refl, sym, ap, ap₂, ◌∙◌, arith}
use Rattle.std.proofs.lemmas.List.Sums.{sum_by-cons}
use Rattle.polynomials.specs.Primes.{IsPrime}
use Rattle.polynomials.specs.Monomials.{Monomial, exponent_of, monomial_product}
use Rattle.polynomials.specs.Polynomials.{Polynomial, IsPolynomial, ArePolynomials}
use Rattle.polynomials.specs.Views.{main_var, is_no_variable, is_constant}
use Rattle.polynomials.specs.Fits.{degrees}
use Rattle.polynomials.proofs.Exponents.{exponent_of-product}
use Rattle.polynomials.proofs.FitsLemmas.{exponent_of-degrees}
use Rattle.polynomials.proofs.MainVariables.{degree_in_main_var}
use Rattle.division_rules.specs.Quotients.{quotient_within, without_factor, factor_bound, without_factors}
use Rattle.division_rules.proofs.QuotientFacts.{quotient_within_canonical, quotient_within_nonzero, quotient_within_degree}
use Rattle.division_rules.proofs.Factors.{IsPolynomial-without_factors, without_factors_nonzero}

sum-cons : (e : ℕ) (m : List ℕ) → sum (e ∷ m) ≡ e + sum m
sum-cons e m = sum_by-cons (λ x. x) e m

-- the exponents of a product have the sum of both sums
pub sum-monomial_product : (l m : Monomial) → sum (monomial_product l m) ≡ sum l + sum m
sum-monomial_product [] m = omega arith
sum-monomial_product (d ∷ l) [] = omega arith
sum-monomial_product (d ∷ l) (e ∷ m) =
    let product = sum-cons (d + e) (monomial_product l m) in
    let left = sum-cons d l in
    let right = sum-cons e m in
    let rest = sum-monomial_product l m in
    omega arith

-- lists with the same exponents have the same sum
pub sum-same_exponents : (l m : Monomial) → ((v : ℕ) → exponent_of v l ≡ exponent_of v m) → sum l ≡ sum m
sum-same_exponents [] [] same = refl
sum-same_exponents [] (e ∷ m) same =
    let first = same 0 in
    let rest = sum-same_exponents [] m (λ v. same (suc v)) in
    let whole = sum-cons e m in
    omega arith
sum-same_exponents (d ∷ l) [] same =
    let first = same 0 in
    let rest = sum-same_exponents l [] (λ v. same (suc v)) in
    let whole = sum-cons d l in
    omega arith
sum-same_exponents (d ∷ l) (e ∷ m) same =
    let first = same 0 in
    let rest = sum-same_exponents l m (λ v. same (suc v)) in
    let left = sum-cons d l in
    let right = sum-cons e m in
    omega arith

-- no exponent is greater than the sum
pub exponent_of_sum : (v : ℕ) (m : Monomial) → exponent_of v m ≤ sum m
exponent_of_sum v [] = omega arith
exponent_of_sum zero (e ∷ m) =
    let whole = sum-cons e m in
    omega arith
exponent_of_sum (suc v) (e ∷ m) =
    let whole = sum-cons e m in
    let rest = exponent_of_sum v m in
    omega arith

-- what isn't constant has a degree of at least 1 in some variable
pub sum_of_degrees_positive : (f : Polynomial) → is_constant f ≡ false → 0 < sum (degrees f)
sum_of_degrees_positive f varies = go (main_var f) refl varies
  where
    go : (o : Option ℕ) → main_var f ≡ o → is_no_variable o ≡ false → 0 < sum (degrees f)
    go None e h = cc
    go (Some v) e h =
        let occurs = degree_in_main_var v f e in
        let below = exponent_of_sum v (degrees f) in
        let same = exponent_of-degrees v f in
        omega arith

module _ (p n w : ℕ) (prime : IsPrime p) (b : Polynomial) (ib : IsPolynomial p n b) where
  -- the sums of degrees of quotient and divisor make that of the dividend
  pub sum_of_degrees_adds : (f q : Polynomial) → IsPolynomial p n f → quotient_within p w f b ≡ Some q → f ≢ [] → sum (degrees f) ≡ sum (degrees q) + sum (degrees b)
  sum_of_degrees_adds f q i e some = sum-same_exponents (degrees f) (monomial_product (degrees q) (degrees b)) each ∙ sum-monomial_product (degrees q) (degrees b)
    where
      each : (v : ℕ) → exponent_of v (degrees f) ≡ exponent_of v (monomial_product (degrees q) (degrees b))
      each v = exponent_of-degrees v f ∙ quotient_within_degree p n w f b q prime i ib e some v ∙ ap₂ ◌+◌ (sym (exponent_of-degrees v q)) (sym (exponent_of-degrees v b)) ∙ sym (exponent_of-product v (degrees q) (degrees b))

  -- with more turns than that sum, division by what isn't constant ends without a further quotient
  pub without_factor_ends : is_constant b ≡ false → (k : ℕ) (f : Polynomial) → IsPolynomial p n f → f ≢ [] → sum (degrees f) < k → quotient_within p w (without_factor p w b k f) b ≡ None
  without_factor_ends varies zero f i some less = absurd (omega arith)
  without_factor_ends varies (suc k) f i some less = go (quotient_within p w f b) refl (λ q j more fewer. without_factor_ends varies k q j more fewer)
    where
      go : (o : Option Polynomial) → quotient_within p w f b ≡ o → ((q : Polynomial) → IsPolynomial p n q → q ≢ [] → sum (degrees q) < k → quotient_within p w (without_factor p w b k q) b ≡ None) → quotient_within p w (elim o as (λ _. Polynomial) [ None ↦ f | Some q ↦ without_factor p w b k q ]) b ≡ None
      go None e later = e
      go (Some q) e later =
          let adds = sum_of_degrees_adds f q i e some in
          let positive = sum_of_degrees_positive b varies in
          later q (quotient_within_canonical p n w f b q prime i ib e) (quotient_within_nonzero p n w f b q prime i ib e some) (omega arith)

  -- so the bound on factors is enough
  pub without_factor_has_none : (f : Polynomial) → is_constant b ≡ false → IsPolynomial p n f → f ≢ [] → quotient_within p w (without_factor p w b (factor_bound f) f) b ≡ None
  without_factor_has_none f varies i some = without_factor_ends varies (factor_bound f) f i some (omega arith)

-- members are divided away in turn
pub without_factors-append : (p w : ℕ) (bs cs : List Polynomial) (f : Polynomial) → without_factors p w (bs ++ cs) f ≡ without_factors p w cs (without_factors p w bs f)
without_factors-append p w [] cs f = refl
without_factors-append p w (b ∷ bs) cs f = go (is_constant b) (without_factors-append p w bs cs f) (without_factors-append p w bs cs (without_factor p w b (factor_bound f) f))
  where
    once : Polynomial
    once = without_factor p w b (factor_bound f) f

    go : (c : Bool) → without_factors p w (bs ++ cs) f ≡ without_factors p w cs (without_factors p w bs f) → without_factors p w (bs ++ cs) once ≡ without_factors p w cs (without_factors p w bs once) → elim c as (λ _. Polynomial) [ true ↦ without_factors p w (bs ++ cs) f | false ↦ without_factors p w (bs ++ cs) once ] ≡ without_factors p w cs (elim c as (λ _. Polynomial) [ true ↦ without_factors p w bs f | false ↦ without_factors p w bs once ])
    go true h k = h
    go false h k = k

-- one member that isn't constant
pub without_factors-one : (p w : ℕ) (b f : Polynomial) → is_constant b ≡ false → without_factors p w (b ∷ []) f ≡ without_factor p w b (factor_bound f) f
without_factors-one p w b f varies = ap (λ c. elim c as (λ _. Polynomial) [ true ↦ f | false ↦ without_factor p w b (factor_bound f) f ]) varies

-- a last member that isn't constant doesn't divide what is left
pub without_factors_has_none : (p n w : ℕ) (bs : List Polynomial) (b f : Polynomial) → IsPrime p → ArePolynomials p n bs → IsPolynomial p n b → is_constant b ≡ false → IsPolynomial p n f → f ≢ [] → quotient_within p w (without_factors p w (bs ++ b ∷ []) f) b ≡ None
without_factors_has_none p n w bs b f prime are ib varies i some =
    let g = without_factors p w bs f in
    let ig = IsPolynomial-without_factors p n w prime bs f are i in
    let some_g = without_factors_nonzero p n w prime bs f are i some in
    ap (λ x. quotient_within p w x b) (without_factors-append p w bs (b ∷ []) f ∙ without_factors-one p w b g varies) ∙ without_factor_has_none p n w prime b ib g varies ig some_g
