-- The turns of a division from the greatest term down: when it stops, goes on and ends.
use Rattle.std.proofs.Common.{◌≡◌, ◌≢◌, ◌⊎◌, ℕ, ◌+◌, ◌-◌, ◌*◌, ◌%◌, ◌^◌, ◌<◌, ◌≤◌, Bool, true, false, [], ◌∷◌, ◌++◌, length, take, drop, get_or, mul-le-mul, Some, None, refl, sym, ap, ap₂, ◌∙◌, subst, inl, inr, length-append, arith}
use Rattle.std.proofs.Math.Nat.{mod-eq_of_lt}
use Rattle.std.proofs.lemmas.Bool.{cases_lt}
use Rattle.polynomials.specs.Primes.{IsPrime, inverse_of}
use Rattle.polynomials.specs.Monomials.{Monomial, exponent_of, monomial_product, MonomialDivides}
use Rattle.polynomials.specs.Polynomials.{Term, term, Polynomial, IsPolynomial, sum_of, product_of, opposite_term, negative_of, difference_of}
use Rattle.polynomials.specs.Views.{degree_in}
use Rattle.polynomials.specs.Fits.{fits}
use Rattle.polynomials.proofs.RingLaws.{neg-times}
use Rattle.sparse_poly.proofs.Places.{take_rest}
use Rattle.polynomials.proofs.PolynomialRing.{polynomial_ring}
use Rattle.sparse_poly.specs.Pairs.{FitsEach, PairsFit}
use Rattle.sparse_poly.proofs.FittingPairs.{FitsEach-from_degrees}
use Rattle.sparse_poly.proofs.Products.{product_of-term}
use Rattle.division_rules.specs.Quotients.{monomial_divides, monomial_over, term_over, quotient_within}
use Rattle.division_rules.proofs.TermQuotients.{monomial_divides_iff, monomial_over-product}
use Rattle.division_rules.proofs.QuotientCases.{quotient_within_none, fits_by_terms}
use Rattle.division_rules.proofs.Divisions.{IsDivision, division_begins, difference_of_same_first, first_quotient_canonical, multiple_canonical, first_quotient_times_first}
use Rattle.division_rules.proofs.DivisionSteps.{division_continues, division_ends, division_fits, division_stops, division_too_long, division_too_high}

-- what stands at the first place of what isn't 0 comes first
pub first_of : (s f : Polynomial) (t : Term) → s ≡ f → f ≢ [] → t ≡ get_or s 0 t → f ≡ t ∷ drop 1 f
first_of s [] t same some is = absurd (some refl)
first_of s (x ∷ f) t same some is = ap (λ y. y ∷ f) (sym (subst (λ (l : Polynomial). t ≡ get_or l 0 t) same is))

-- and the later terms stand after it
pub first_and_later : (s r f : Polynomial) (t : Term) → s ≡ f → r ≡ f → f ≢ [] → t ≡ get_or s 0 t → f ≡ t ∷ take (length r - 1) (drop 1 r)
first_and_later s r f t same again some is =
    first_of s f t same some is
    ∙ ap (λ l. t ∷ l) (sym (take_rest f 1) ∙ ap (λ (l : Polynomial). take (length l - 1) (drop 1 l)) (sym again))

-- the opposite of a term with a residue other than 0
pub opposite_residue : (p : ℕ) (s : Term) → 0 < s.1 → s.1 < p → term s.0 ((p - s.1) % p) ≡ opposite_term p s
opposite_residue p s some small = ap (λ x. term s.0 x) (mod-eq_of_lt (omega arith))

-- one more term leaves less room
pub less_room : (k m w k' : ℕ) → 0 < m → (k + 1) * m ≤ w → k' ≡ k + 1 → w - k' < w - k
less_room k m w k' some short more =
    let grows : (k + 1) * 1 ≤ (k + 1) * m = mul-le-mul (omega arith) (omega arith) in
    omega arith

-- the number of terms is one of 32 bits
pub few_terms : (k m w : ℕ) → 0 < m → k * m ≤ w → w < 2 ^ 32 → k < 2 ^ 32
few_terms k m w some few narrow =
    let grows : k * 1 ≤ k * m = mul-le-mul (omega arith) (omega arith) in
    omega arith

-- what fits with all terms fits with the later ones
pub fit_later : (f b : Polynomial) (u : Term) (g : Polynomial) → b ≡ u ∷ g → PairsFit f b → PairsFit f g
fit_later [] b u g whole h = tt
fit_later (t ∷ f) b u g whole h = ((subst (FitsEach t.0) whole h.0).1, fit_later f b u g whole h.1)

module _ (p n w : ℕ) (prime : IsPrime p) (a b : Polynomial) (u : Term) (i : IsPolynomial p n a) (j : IsPolynomial p n b) (some : a ≢ []) (g : Polynomial) (whole : b ≡ u ∷ g) where
  positive : 0 < p
  positive = omega (arith, prime.many)

  j_whole : IsPolynomial p n (u ∷ g)
  j_whole = subst (IsPolynomial p n) whole j

  -- where there is no quotient by the first term and the others, there is none
  none_of_whole : quotient_within p w a (u ∷ g) ≡ None → quotient_within p w a b ≡ None
  none_of_whole h = ap (quotient_within p w a) whole ∙ h

  -- the later terms of the divisor are canonical
  pub later_canonical : IsPolynomial p n g
  later_canonical = j_whole.4

  -- a division begins without a term
  pub begins : (ts rest : Polynomial) → ts ≡ [] → rest ≡ a → IsDivision p n u (g) a ts rest
  begins ts rest no_term all =
      subst (λ k. IsDivision p n u (g) a k rest) (sym no_term)
      (subst (λ r. IsDivision p n u (g) a [] r) (sym all) (division_begins p n u (g) a positive i))

  -- a term is the quotient of two others where its product by one is the other
  pub term_is : (t s : Term) → length s.0 ≡ n → monomial_product s.0 u.0 ≡ t.0 → s.1 ≡ t.1 * inverse_of p u.1 % p → s ≡ term_over p t u
  term_is t s long product over = ap₂ term (sym (sym (ap (λ m. monomial_over m u.0) product) ∙ monomial_over-product u.0 s.0 (j_whole.0 ∙ sym long))) over

  module _ (ts rest later : Polynomial) (t : Term) (first : rest ≡ t ∷ later) (d : IsDivision p n u (g) a ts rest) where
    e : IsDivision p n u (g) a ts (t ∷ later)
    e = subst (λ r. IsDivision p n u (g) a ts r) first d

    -- the test of divisibility is that of exponents
    divides_test : MonomialDivides u.0 t.0 → monomial_divides u.0 t.0 ≡ true
    divides_test h = (monomial_divides_iff u.0 t.0 (j_whole.0 ∙ sym e.rest_canonical.0)).1 h

    -- there is no quotient where the first term isn't a multiple
    pub stops_undivided : (MonomialDivides u.0 t.0 → ⊥) → quotient_within p w a b ≡ None
    stops_undivided undivided = none_of_whole (division_stops p n prime u (g) j_whole a w i ts t (later) e (go (monomial_divides u.0 t.0) refl))
      where
        go : (c : Bool) → monomial_divides u.0 t.0 ≡ c → monomial_divides u.0 t.0 ≡ false
        go false h = h
        go true h = absurd (undivided ((monomial_divides_iff u.0 t.0 (j_whole.0 ∙ sym e.rest_canonical.0)).0 h))

    -- nor where one more term is too many
    pub stops_long : w < (length ts + 1) * length b → quotient_within p w a b ≡ None
    stops_long long = go (monomial_divides u.0 t.0) refl
      where
        s : Term
        s = term_over p t u

        go : (c : Bool) → monomial_divides u.0 t.0 ≡ c → quotient_within p w a b ≡ None
        go false h = none_of_whole (division_stops p n prime u (g) j_whole a w i ts t (later) e h)
        go true h = none_of_whole (division_too_long p n prime u (g) j_whole a w i (ts ++ s ∷ []) (difference_of p (t ∷ later) (product_of p (s ∷ []) (u ∷ g))) (division_continues p n prime u (g) j_whole a ts t (later) h e) some (subst (λ k. w < k) (ap₂ ◌*◌ (sym (length-append ts (s ∷ []))) (ap length whole)) long))

    module _ (s : Term) (is : s ≡ term_over p t u) (room : Monomial) (has : (v : ℕ) → exponent_of v room + degree_in v b ≡ degree_in v a) where
      -- nor where the next term has a greater exponent than the quotient can have
      pub stops_high : (MonomialDivides s.0 room → ⊥) → quotient_within p w a b ≡ None
      stops_high high = quotient_within_none p w a b (λ q found. high (λ v. go q found v (cases_lt (exponent_of v room) (exponent_of v s.0))))
        where
          go : (q : Polynomial) → quotient_within p w a b ≡ Some q → (v : ℕ) → (exponent_of v room < exponent_of v s.0) ⊎ (exponent_of v s.0 ≤ exponent_of v room) → exponent_of v s.0 ≤ exponent_of v room
          go q found v (inr low) = low
          go q found v (inl above) =
              let same = ap (λ x. exponent_of v x.0) is in
              let degree = ap (degree_in v) whole in
              let sum = has v in
              let none = none_of_whole (division_too_high p n prime u (g) j_whole a w i ts t (later) v e some (omega arith)) in
              cc

    -- what is left is the later terms and the product of the opposite term by the divisor's later terms
    left_after : (divides : monomial_divides u.0 t.0 ≡ true) → difference_of p (t ∷ later) (product_of p (term_over p t u ∷ []) (u ∷ g)) ≡ sum_of p later (product_of p (negative_of p (term_over p t u ∷ [])) g)
    left_after divides =
        ap (difference_of p (t ∷ later)) multiple_is
        ∙ difference_of_same_first p n prime.many t later product e.rest_canonical (subst (IsPolynomial p n) multiple_is (multiple_canonical p n prime u g j_whole t later e.rest_canonical divides))
        ∙ ap (sum_of p later) (sym (ap (λ x. x.0) (neg-times (polynomial_ring p n prime.many) (s ∷ [], is) (g, j_whole.4))))
      where
        s : Term
        s = term_over p t u

        is : IsPolynomial p n (s ∷ [])
        is = first_quotient_canonical p n prime u g j_whole t later e.rest_canonical divides

        product : Polynomial
        product = product_of p (s ∷ []) g

        multiple_is : product_of p (s ∷ []) (u ∷ g) ≡ t ∷ product
        multiple_is =
            product_of-term p n prime s (u ∷ g) is j_whole
            ∙ ap₂ ◌∷◌ (first_quotient_times_first p n prime u g j_whole t later e.rest_canonical divides) (sym (product_of-term p n prime s g is j_whole.4))

    -- the next term of the quotient leaves that
    pub turn : (s : Term) (next : Polynomial) → s ≡ term_over p t u → MonomialDivides u.0 t.0 → next ≡ sum_of p later (product_of p (negative_of p (s ∷ [])) g) → IsDivision p n u g a (ts ++ s ∷ []) next
    turn s next is divides leaves =
        subst (λ r. IsDivision p n u g a (ts ++ s ∷ []) r) (left_after (divides_test divides) ∙ ap (λ x. sum_of p later (product_of p (negative_of p (x ∷ [])) g)) (sym is) ∙ sym leaves)
        (subst (λ x. IsDivision p n u g a (ts ++ x ∷ []) (difference_of p (t ∷ later) (product_of p (term_over p t u ∷ []) (u ∷ g)))) (sym is)
        (division_continues p n prime u g j_whole a ts t later (divides_test divides) e))

    -- it comes after the others
    pub next_canonical : (s : Term) → s ≡ term_over p t u → MonomialDivides u.0 t.0 → IsPolynomial p n (ts ++ s ∷ [])
    next_canonical s is divides = subst (λ x. IsPolynomial p n (ts ++ x ∷ [])) (sym is) (division_continues p n prime u g j_whole a ts t later (divides_test divides) e).terms_canonical

  module _ (most : (v : ℕ) → degree_in v a ≤ 65535) where
    -- the products of a next term by the divisor's later terms have exponents of 16 bits
    pub later_fits : (m room : Monomial) → ((v : ℕ) → exponent_of v room + degree_in v b ≡ degree_in v a) → MonomialDivides m room → FitsEach m g
    later_fits m room has low = FitsEach-from_degrees m g (λ v.
        let degree = ap (degree_in v) whole in
        let sum = has v in
        let bound = most v in
        let small = low v in
        omega arith)

    -- where nothing is left the terms are the quotient
    pub done : (ts rest : Polynomial) → rest ≡ [] → IsDivision p n u (g) a ts rest → length ts * length b ≤ w → quotient_within p w a b ≡ Some ts
    done ts rest nothing d few =
        ap (quotient_within p w a) whole
        ∙ division_fits p n prime u (g) j_whole a w i ts e
        (subst (λ y. fits w ts y ≡ true) whole (fits_by_terms p n w a b prime i j (λ none. let h = sym whole ∙ none in cc) ts e.terms_canonical (ap (product_of p ts) whole ∙ division_ends p n prime u (g) j_whole a ts e) some most few))
      where
        e : IsDivision p n u (g) a ts []
        e = subst (λ r. IsDivision p n u (g) a ts r) nothing d
