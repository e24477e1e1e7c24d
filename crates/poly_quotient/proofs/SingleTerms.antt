-- Division by a single term: one quotient for each term.
use Rattle.std.proofs.Common.{◌≡◌, ◌≢◌, ℕ, zero, suc, ◌+◌, ◌*◌, ◌%◌, ◌<◌, ◌≤◌, true, List, [], ◌∷◌, ◌++◌, map, length, drop, get_or, Some, None, refl, sym, ap, ap₂, ◌∙◌, subst, mul_comm, arith}
use Rattle.polynomials.specs.Primes.{IsPrime, inverse_of}
use Rattle.polynomials.specs.Monomials.{exponent_of, monomial_product, MonomialDivides}
use Rattle.polynomials.specs.MonomialOrders.{monomial_product_comm, monomial_order-product}
use Rattle.polynomials.specs.Polynomials.{Term, term, Polynomial, StartsBelow, IsPolynomial, product_of}
use Rattle.polynomials.specs.Views.{degree_in}
use Rattle.polynomials.proofs.Exponents.{exponent_of-product}
use Rattle.polynomials.proofs.PolynomialLaws.{product_of_comm}
use Rattle.sparse_poly.proofs.Places.{IsPolynomial-item}
use Rattle.sparse_poly.proofs.Passes.{pass_turn, pass_end}
use Rattle.sparse_poly.proofs.Products.{reduced_product, product_of-term}
use Rattle.division_rules.specs.Quotients.{monomial_divides, monomial_over, term_over, quotient_within}
use Rattle.division_rules.proofs.TermQuotients.{monomial_divides_iff, monomial_over-product}
use Rattle.division_rules.proofs.Quotients.{quotient_within_exact, quotient_within_fits, quotient_within_found, IsPolynomial-quotient_within}
use Rattle.division_rules.proofs.QuotientCases.{quotient_within_none, fits_by_terms, terms_from_fits}
use Rattle.division_rules.proofs.Divisions.{first_quotient_canonical, first_quotient_times_first}

-- terms of n exponents with coefficients from 1 to p - 1
abbrev pub AreTerms : ℕ → ℕ → List Term → Type 0
AreTerms p n [] = Unit {0}
AreTerms p n (t ∷ ts) = (length t.0 ≡ n) × (0 < t.1) × (t.1 < p) × AreTerms p n ts

AreTerms-push : (p n : ℕ) (ts : List Term) (s : Term) → AreTerms p n ts → IsPolynomial p n (s ∷ []) → AreTerms p n (ts ++ s ∷ [])
AreTerms-push p n [] s are i = (i.0, i.1, i.2, tt)
AreTerms-push p n (t ∷ ts) s are i = (are.0, are.1, are.2, AreTerms-push p n ts s are.3 i)

map-push : (f : Term → Term) (ts : List Term) (s : Term) → map f (ts ++ s ∷ []) ≡ map f ts ++ f s ∷ []
map-push f [] s = refl
map-push f (t ∷ ts) s = ap (λ l. f t ∷ l) (map-push f ts s)

map-count : (f : Term → Term) (ts : List Term) → length (map f ts) ≡ length ts
map-count f [] = refl
map-count f (t ∷ ts) = ap suc (map-count f ts)

-- what stands at the first place of a list of one item is that item
pub single_of : (s f : Polynomial) (t : Term) → s ≡ f → length f ≡ 1 → t ≡ get_or s 0 t → f ≡ t ∷ []
single_of s [] t same one is = absurd (omega arith)
single_of s (x ∷ []) t same one is = ap (λ y. y ∷ []) (sym (subst (λ (l : Polynomial). t ≡ get_or l 0 t) same is))
single_of s (x ∷ y ∷ f) t same one is = absurd (omega arith)

module _ (p n w : ℕ) (prime : IsPrime p) (u : Term) (b : Polynomial) (whole : b ≡ u ∷ []) (ib : IsPolynomial p n b) where
  positive : 0 < p
  positive = omega (arith, prime.many)

  j : IsPolynomial p n (u ∷ [])
  j = subst (IsPolynomial p n) whole ib

  -- a product by u is made term by term
  product_is : (q : Polynomial) → IsPolynomial p n q → product_of p q (u ∷ []) ≡ map (reduced_product p u) q
  product_is q i = product_of_comm p positive n q (u ∷ []) i j ∙ product_of-term p n prime u q j i

  -- terms stand in order where their products by u do
  canonical : (q : Polynomial) → AreTerms p n q → IsPolynomial p n (map (reduced_product p u) q) → IsPolynomial p n q
  canonical [] are i = tt
  canonical (t ∷ q) are i = (are.0, are.1, are.2, below q are.3 i.3, canonical q are.3 i.4)
    where
      below : (q : Polynomial) → AreTerms p n q → StartsBelow (monomial_product u.0 t.0) (map (reduced_product p u) q) → StartsBelow t.0 q
      below [] k s = tt
      below (x ∷ q) k s = sym (monomial_order-product u.0 x.0 t.0 (k.0 ∙ sym are.0)) ∙ s

  -- u divides each product by it
  divides_at : (q : Polynomial) (k : ℕ) (t : Term) → k < length (map (reduced_product p u) q) → t ≡ get_or (map (reduced_product p u) q) k t → MonomialDivides u.0 t.0
  divides_at [] k t below at = absurd (omega arith)
  divides_at (x ∷ q) zero t below at = λ v. let same = ap (λ (y : Term). exponent_of v y.0) at in let adds = exponent_of-product v u.0 x.0 in omega arith
  divides_at (x ∷ q) (suc k) t below at = divides_at q k t (omega arith) at

  module _ (a : Polynomial) (i : IsPolynomial p n a) where
    -- a is the quotient times u, term by term
    multiple_of : (q : Polynomial) → quotient_within p w a (u ∷ []) ≡ Some q → map (reduced_product p u) q ≡ a
    multiple_of q e = sym (product_is q (IsPolynomial-quotient_within p n w a (u ∷ []) q positive i j e)) ∙ quotient_within_exact p w a (u ∷ []) q e

    -- there is no quotient where u doesn't divide some term
    pub none_undivided : (k : ℕ) (t : Term) → k < length a → t ≡ get_or a k t → (MonomialDivides u.0 t.0 → ⊥) → quotient_within p w a b ≡ None
    none_undivided k t below at undivided =
        ap (quotient_within p w a) whole
        ∙ quotient_within_none p w a (u ∷ []) (λ q e. undivided (divides_at q k t (subst (λ (l : Polynomial). k < length l) (sym (multiple_of q e)) below) (subst (λ (l : Polynomial). t ≡ get_or l k t) (sym (multiple_of q e)) at)))

    -- nor where a has too many terms
    pub none_wide : a ≢ [] → w < length a → quotient_within p w a b ≡ None
    none_wide some wide = ap (quotient_within p w a) whole ∙ quotient_within_none p w a (u ∷ []) never
      where
        never : (q : Polynomial) → quotient_within p w a (u ∷ []) ≡ Some q → ⊥
        never q e =
            let count = ap length (multiple_of q e) in
            let same = map-count (reduced_product p u) q in
            let few : length q * 1 ≤ w = terms_from_fits p n w a (u ∷ []) prime i j (λ x. cc) q (IsPolynomial-quotient_within p n w a (u ∷ []) q positive i j e) (quotient_within_exact p w a (u ∷ []) q e) some (quotient_within_fits p w a (u ∷ []) q e) in
            absurd (omega arith)

    -- a term of a and its quotient s
    module _ (k : ℕ) (t s : Term) (below : k < length a) (at : t ≡ get_or a k t) (divides : MonomialDivides u.0 t.0) (long : length s.0 ≡ n) (product : monomial_product s.0 u.0 ≡ t.0) (over : s.1 ≡ t.1 * inverse_of p u.1 % p) where
      item : IsPolynomial p n (t ∷ drop (k + 1) a)
      item = IsPolynomial-item p n k a t i below at

      divides_test : monomial_divides u.0 t.0 ≡ true
      divides_test = (monomial_divides_iff u.0 t.0 (j.0 ∙ sym item.0)).1 divides

      s_is : s ≡ term_over p t u
      s_is = ap₂ term (sym (sym (ap (λ m. monomial_over m u.0) product) ∙ monomial_over-product u.0 s.0 (j.0 ∙ sym long))) over

      again : reduced_product p u s ≡ t
      again = ap₂ term (monomial_product_comm u.0 s.0) (ap (λ x. x % p) (mul_comm u.1 s.1)) ∙ (ap (λ x. term (monomial_product x.0 u.0) (x.1 * u.1 % p)) s_is ∙ first_quotient_times_first p n prime u [] j t (drop (k + 1) a) item divides_test)

      pub terms_pushed : (out : Polynomial) → AreTerms p n out → AreTerms p n (out ++ s ∷ [])
      terms_pushed out are = AreTerms-push p n out s are (subst (λ x. IsPolynomial p n (x ∷ [])) (sym s_is) (first_quotient_canonical p n prime u [] j t (drop (k + 1) a) item divides_test))

      pub multiple_pushed : (out : Polynomial) → map (reduced_product p u) out ++ drop k a ≡ a → map (reduced_product p u) (out ++ s ∷ []) ++ drop (k + 1) a ≡ a
      multiple_pushed out h =
          ap (λ l. l ++ drop (k + 1) a) (map-push (reduced_product p u) out s ∙ ap (λ x. map (reduced_product p u) out ++ x ∷ []) again)
          ∙ pass_turn (λ l. l) (λ l. l) (λ x l. refl) (map (reduced_product p u) out) a a k t below at h

    -- at the end the terms are the quotient
    pub single_done : (k : ℕ) (out : Polynomial) → a ≢ [] → ((v : ℕ) → degree_in v a ≤ 65535) → length a ≤ w → length a ≤ k → AreTerms p n out → map (reduced_product p u) out ++ drop k a ≡ a → quotient_within p w a b ≡ Some out
    single_done k out some most few end are h =
        let all : map (reduced_product p u) out ≡ a = pass_end (λ l. l) refl (map (reduced_product p u) out) a a k end h in
        let iq = canonical out are (subst (IsPolynomial p n) (sym all) i) in
        let product = product_is out iq ∙ all in
        let count = ap length all in
        let same = map-count (reduced_product p u) out in
        ap (quotient_within p w a) whole
        ∙ quotient_within_found p n w a (u ∷ []) out prime j iq (λ x. cc) product (fits_by_terms p n w a (u ∷ []) prime i j (λ x. cc) out iq product some most (omega arith))
