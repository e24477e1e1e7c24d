-- What a call says of a quotient, from what the quotient is.
use Rattle.std.proofs.Common.{◌≡◌, ◌≢◌, ℕ, ◌+◌, ◌*◌, ◌<◌, ◌≤◌, length, mul-le-mul, ◌↔◌, Bool, true, false, [], ◌∷◌, ◌++◌, subst, Option, Some, None, IfSome, IfNone, IsNone, refl, sym, ap, ◌∙◌, arith}
use Rattle.polynomials.specs.Primes.{IsPrime}
use Rattle.polynomials.specs.Monomials.{Monomial, exponent_of, monomial_product, MonomialDivides}
use Rattle.polynomials.specs.Polynomials.{term, Polynomial, IsPolynomial, product_of}
use Rattle.polynomials.specs.Views.{degree_in}
use Rattle.polynomials.specs.Fits.{fits}
use Rattle.polynomials.proofs.Exponents.{exponent_of-product}
use Rattle.sparse_poly.specs.Values.{HasValueOfProduct}
use Rattle.sparse_poly.proofs.ValueClauses.{has_value_of_product}
use Rattle.division_rules.specs.Quotients.{quotient_within}
use Rattle.division_rules.proofs.Quotients.{quotient_within_exact, quotient_within_fits, quotient_within_of_zero, IsPolynomial-quotient_within}
use Rattle.division_rules.proofs.QuotientFacts.{quotient_within_degree}
use Rattle.division_rules.proofs.QuotientCases.{quotient_within_none, quotient_within_none_iff}
use Rattle.poly_quotient.proofs.BegunDivisions.{few_from_fits}
use Rattle.poly_quotient.proofs.LastTerms.{last_divides}

-- a test that fails exactly where there is nothing holds where there is something
pub some_then_true : {X : Type 0} (o : Option X) (x : X) (b : Bool) → (IsNone o ↔ (b ≡ false)) → o ≡ Some x → b ≡ true
some_then_true o x true h e = refl
some_then_true o x false h e = let bad = subst IsNone e (h.1 refl) in cc

-- what holds of what there is
pub IfSome-weaker : {X : Type 0} (P Q : X → Type 0) → (o : Option X) → ((x : X) → P x → Q x) → IfSome o P → IfSome o Q
IfSome-weaker P Q (Some x) h i = h x i
IfSome-weaker P Q None h i = tt

pub some_at : {X : Type 0} (P : X → Type 0) (o : Option X) (x : X) → o ≡ Some x → IfSome o P → P x
some_at P o x is h = subst (λ r. IfSome r P) is h

-- what holds where there is nothing
pub none_at : {X : Type 0} (P : Type 0) (o : Option X) → o ≡ None → IfNone o P → P
none_at P o is h = subst (λ r. IfNone r P) is h

-- there is no quotient by more terms than the width
pub none_of_narrow : (p n w : ℕ) (a b : Polynomial) → w < length b → a ≢ [] → quotient_within p w a b ≡ None
none_of_narrow p n w a b narrow some = quotient_within_none p w a b none
  where
    none : (q : Polynomial) → quotient_within p w a b ≡ Some q → ⊥
    none [] e = some (sym (quotient_within_exact p w a b [] e))
    none (t ∷ q) e =
        let few = few_from_fits w (t ∷ q) b (quotient_within_fits p w a b (t ∷ q) e) in
        let grows : 1 * length b ≤ length (t ∷ q) * length b = mul-le-mul (omega arith) (omega arith) in
        omega arith

module _ (p n w : ℕ) (prime : IsPrime p) (a b : Polynomial) (i : IsPolynomial p n a) (j : IsPolynomial p n b) (nonzero : b ≢ []) where
  positive : 0 < p
  positive = omega (arith, prime.many)

  -- 0 has the quotient 0
  pub quotient_of_zero : a ≡ [] → quotient_within p w a b ≡ Some []
  quotient_of_zero none = ap (λ x. quotient_within p w x b) none ∙ quotient_within_of_zero p w b nonzero

  -- there is no quotient where the last monomial of the divisor doesn't divide that of the dividend
  pub none_of_last : (l m : Monomial) → (g : Polynomial) × ((d : ℕ) × (b ≡ g ++ term l d ∷ [])) → (f : Polynomial) × ((c : ℕ) × (a ≡ f ++ term m c ∷ [])) → (MonomialDivides l m → ⊥) → quotient_within p w a b ≡ None
  none_of_last l m at_b at_a undivided = quotient_within_none p w a b (λ q e. undivided (last_divides p n (term m at_a.1.0) (term l at_b.1.0) q at_a.0 at_b.0 prime (IsPolynomial-quotient_within p n w a b q positive i j e) (subst (IsPolynomial p n) at_b.1.1 j) (ap (product_of p q) (sym at_b.1.1) ∙ (quotient_within_exact p w a b q e ∙ at_a.1.1))))

  module _ (low high : Monomial) (degrees_b : (v : ℕ) → exponent_of v low ≡ degree_in v b) (degrees_a : (v : ℕ) → exponent_of v high ≡ degree_in v a) where
    -- there is no quotient where a degree of the divisor is greater
    pub none_of_degrees : a ≢ [] → (MonomialDivides low high → ⊥) → quotient_within p w a b ≡ None
    none_of_degrees some high_somewhere = quotient_within_none p w a b (λ q e. high_somewhere (λ v. let l = degrees_b v in let h = degrees_a v in let adds = quotient_within_degree p n w a b q prime i j e some v in omega arith))

    -- the degrees that a quotient has
    pub room_of : (room : Monomial) → monomial_product room low ≡ high → (v : ℕ) → exponent_of v room + degree_in v b ≡ degree_in v a
    room_of room product v =
        let adds = exponent_of-product v room low in
        let same = ap (exponent_of v) product in
        let l = degrees_b v in
        let h = degrees_a v in
        omega arith

  -- what is said of a quotient that is there
  pub canonical_of : (q : Polynomial) → quotient_within p w a b ≡ Some q → IsPolynomial p n q
  canonical_of q e = IsPolynomial-quotient_within p n w a b q positive i j e

  pub exact_of : (r : Option Polynomial) → r ≡ quotient_within p w a b → IfSome r (λ q. product_of p q b ≡ a)
  exact_of None e = tt
  exact_of (Some q) e = quotient_within_exact p w a b q (sym e)

  pub fits_of : (r : Option Polynomial) → r ≡ quotient_within p w a b → IfSome r (λ q. fits w q b ≡ true)
  fits_of None e = tt
  fits_of (Some q) e = quotient_within_fits p w a b q (sym e)

  pub over_of : (r : Option Polynomial) → r ≡ quotient_within p w a b → IfSome r (IsPolynomial p n)
  over_of None e = tt
  over_of (Some q) e = canonical_of q (sym e)

  pub values_of : (r : Option Polynomial) → r ≡ quotient_within p w a b → IfSome r (λ q. HasValueOfProduct p q b a)
  values_of None e = tt
  values_of (Some q) e = has_value_of_product p q b a (sym (quotient_within_exact p w a b q (sym e)))

  -- and where there is none
  pub none_of : (r : Option Polynomial) → r ≡ quotient_within p w a b → IfNone r ((q : Polynomial) → IsPolynomial p n q → product_of p q b ≡ a → fits w q b ≢ true)
  none_of None e = (quotient_within_none_iff p n w a b prime i j nonzero).0 (sym e)
  none_of (Some q) e = tt
