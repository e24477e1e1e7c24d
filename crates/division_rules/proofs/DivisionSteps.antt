-- A division goes on until the rest is 0, or until no quotient is left.
use Rattle.std.proofs.Common.{◌≡◌, ◌≢◌, ℕ, ◌+◌, ◌*◌, ◌%◌, ◌<◌, ◌≤◌, true, false, [], ◌∷◌, ◌++◌, length, Some, None, refl, sym, ap, ap₂, ◌∙◌, subst, append_assoc, length-append, mul-le-mul, arith}
use Rattle.std.specs.declared.cmp.Ordering.TheVariants.{Less}
use Rattle.polynomials.specs.Primes.{IsPrime}
use Rattle.polynomials.specs.Monomials.{Monomial, exponent_of, monomial_order, monomial_product}
use Rattle.polynomials.specs.MonomialOrders.{monomial_order-product, monomial_product_comm}
use Rattle.polynomials.specs.Polynomials.{Term, term, Polynomial, StartsBelow, IsPolynomial, sum_of, product_of, difference_of}
use Rattle.polynomials.specs.Views.{degree_in}
use Rattle.polynomials.specs.Fits.{fits}
use Rattle.polynomials.specs.Rings.{Ring}
use Rattle.polynomials.proofs.Monomialwise.{EachMonomial-append, EachMonomial-implied, EachMonomial-both, HaveLength-from_IsPolynomial}
use Rattle.polynomials.proofs.PolynomialLaws.{sum_of-zero}
use Rattle.polynomials.proofs.Canonical.{StartsBelow_trans, IsPolynomial-product_of, IsPolynomial-difference_of}
use Rattle.polynomials.proofs.PolynomialRing.{polynomial_ring}
use Rattle.polynomials.proofs.FirstTerms.{first_term_of_product}
use Rattle.polynomials.proofs.QuotientLemmas.{quotient_degree}
use Rattle.polynomials.proofs.Solver.{var, ◌:+◌, ◌:-◌, ◌:*◌, solve}
use Rattle.division_rules.specs.Quotients.{monomial_divides, term_over, quotient_within}
use Rattle.division_rules.proofs.TermQuotients.{term_over-product, monomial_divides-product}
use Rattle.division_rules.proofs.QuotientTerms.{product_without_first}
use Rattle.division_rules.proofs.Quotients.{quotient_within_exact, quotient_within_fits, quotient_within_found, IsPolynomial-quotient_within}
use Rattle.division_rules.proofs.QuotientCases.{quotient_within_none, terms_from_fits}
use Rattle.division_rules.proofs.Divisions.{AreAbove, IsPolynomial-push, append_is_sum, IsDivision, first_quotient_canonical, multiple_canonical, first_quotient_times_first, rest_falls}

-- one more term of the quotient takes its product from the rest
move_to_quotient : {A : Type 0} (r : Ring A) (x y z w : A) → r.◌⊕◌ (r.◌⊗◌ (r.◌⊕◌ x y) z) (r.◌⊕◌ w (r.neg (r.◌⊗◌ y z))) ≡ r.◌⊕◌ (r.◌⊗◌ x z) w
move_to_quotient r x y z w = solve r (x ∷ y ∷ z ∷ w ∷ []) ((var 0 :+ var 1) :* var 2 :+ (var 3 :- var 1 :* var 2)) (var 0 :* var 2 :+ var 3) refl

-- the exponents of a term are at most the degree
exponent_of_member : (v : ℕ) (ts : Polynomial) (x : Term) (k : Polynomial) → exponent_of v x.0 ≤ degree_in v (ts ++ x ∷ k)
exponent_of_member v [] x k = omega arith
exponent_of_member v (t ∷ ts) x k =
    let later = exponent_of_member v ts x k in
    omega arith

-- polynomials that are the same have the same first term
same_first : (t u : Term) (f g : Polynomial) → t ∷ f ≡ u ∷ g → t ≡ u
same_first t u f g e = cc

module _ (p n : ℕ) (prime : IsPrime p) (u : Term) (g : Polynomial) (j : IsPolynomial p n (u ∷ g)) (f : Polynomial) where
  positive : 0 < p
  positive = omega (arith, prime.many)

  -- while u divides the first term of the rest, one more term of the quotient is found
  pub division_continues : (ts : Polynomial) (t : Term) (rest : Polynomial) → monomial_divides u.0 t.0 ≡ true → IsDivision p n u g f ts (t ∷ rest) → IsDivision p n u g f (ts ++ term_over p t u ∷ []) (difference_of p (t ∷ rest) (product_of p (term_over p t u ∷ []) (u ∷ g)))
  division_continues ts t rest divides d = record {
    terms_canonical = canonical;
    rest_canonical = IsPolynomial-difference_of p n positive (t ∷ rest) multiple i im;
    whole = ap (λ x. sum_of p (product_of p x (u ∷ g)) next) (sym (append_is_sum p n ts s canonical)) ∙ ap (λ x. x.0) (move_to_quotient (polynomial_ring p n prime.many) (ts, d.terms_canonical) (s ∷ [], is) (u ∷ g, j) (t ∷ rest, i)) ∙ d.whole;
    falling = EachMonomial-append (λ m. StartsBelow (monomial_product m u.0) next) ts (s ∷ []) (EachMonomial-implied (λ m. monomial_order t.0 (monomial_product m u.0) ≡ Less) (λ m. StartsBelow (monomial_product m u.0) next) (λ m less. StartsBelow_trans t.0 (monomial_product m u.0) next falls less) ts d.falling) (subst (λ m. StartsBelow m next) (sym first_monomial) falls, tt);
    prefix = λ q iq product. longer q (d.prefix q iq product);
  }
    where
      s : Term
      s = term_over p t u

      multiple : Polynomial
      multiple = product_of p (s ∷ []) (u ∷ g)

      next : Polynomial
      next = difference_of p (t ∷ rest) multiple

      i : IsPolynomial p n (t ∷ rest)
      i = d.rest_canonical

      is : IsPolynomial p n (s ∷ [])
      is = first_quotient_canonical p n prime u g j t rest i divides

      im : IsPolynomial p n multiple
      im = multiple_canonical p n prime u g j t rest i divides

      falls : StartsBelow t.0 next
      falls = rest_falls p n prime u g j t rest i divides

      first_monomial : monomial_product s.0 u.0 ≡ t.0
      first_monomial = ap (λ x. x.0) (first_quotient_times_first p n prime u g j t rest i divides)

      -- a monomial whose product by u is greater than t is greater than s
      greater : (m : Monomial) → (monomial_order t.0 (monomial_product m u.0) ≡ Less) × (length m ≡ n) → monomial_order s.0 m ≡ Less
      greater m h = sym (monomial_order-product u.0 s.0 m (is.0 ∙ sym h.1)) ∙ ap₂ monomial_order (monomial_product_comm u.0 s.0 ∙ first_monomial) (monomial_product_comm u.0 m) ∙ h.0

      above : AreAbove s.0 ts
      above = EachMonomial-implied (λ m. (monomial_order t.0 (monomial_product m u.0) ≡ Less) × (length m ≡ n)) (λ m. monomial_order s.0 m ≡ Less) greater ts (EachMonomial-both (λ m. monomial_order t.0 (monomial_product m u.0) ≡ Less) (λ m. length m ≡ n) ts d.falling (HaveLength-from_IsPolynomial p n ts d.terms_canonical))

      canonical : IsPolynomial p n (ts ++ s ∷ [])
      canonical = IsPolynomial-push p n ts s is.0 is.1 is.2 above d.terms_canonical

      longer : (q : Polynomial) → (k : Polynomial) × IsPolynomial p n k × (q ≡ ts ++ k) × (product_of p k (u ∷ g) ≡ t ∷ rest) → (k : Polynomial) × IsPolynomial p n k × (q ≡ (ts ++ s ∷ []) ++ k) × (product_of p k (u ∷ g) ≡ next)
      longer q ([], ik, begins, product) = cc
      longer q (x ∷ k, ik, begins, product) =
          let start = first_term_of_product p n x u k g prime ik j in
          let t_is = same_first t (term (monomial_product x.0 u.0) (x.1 * u.1 % p)) rest start.0 (sym product ∙ start.1) in
          let s_is : s ≡ x = ap (λ y. term_over p y u) t_is ∙ term_over-product p prime x u (ik.0 ∙ sym j.0) ik.2 j.1 j.2 in (
            k,
            ik.4,
            begins ∙ ap (λ y. ts ++ y ∷ k) (sym s_is) ∙ sym (append_assoc ts (s ∷ []) k),
            sym (product_without_first p n prime.many x k (u ∷ g) ik j) ∙ ap₂ (λ y z. difference_of p y (product_of p (z ∷ []) (u ∷ g))) product (sym s_is),
          )

  -- at the end nothing is left, and the terms are a factor
  pub division_ends : (ts : Polynomial) → IsDivision p n u g f ts [] → product_of p ts (u ∷ g) ≡ f
  division_ends ts d = sym (sum_of-zero p positive n (product_of p ts (u ∷ g)) (IsPolynomial-product_of p n positive ts (u ∷ g) d.terms_canonical j)) ∙ d.whole

  module _ (w : ℕ) (i : IsPolynomial p n f) where
    -- they are the quotient where they fit
    pub division_fits : (ts : Polynomial) → IsDivision p n u g f ts [] → fits w ts (u ∷ g) ≡ true → quotient_within p w f (u ∷ g) ≡ Some ts
    division_fits ts d fit = quotient_within_found p n w f (u ∷ g) ts prime j d.terms_canonical (λ e. cc) (division_ends ts d) fit

    -- each quotient begins with the terms so far
    quotient_begins : (ts rest q : Polynomial) → IsDivision p n u g f ts rest → quotient_within p w f (u ∷ g) ≡ Some q → (k : Polynomial) × IsPolynomial p n k × (q ≡ ts ++ k) × (product_of p k (u ∷ g) ≡ rest)
    quotient_begins ts rest q d e = d.prefix q (IsPolynomial-quotient_within p n w f (u ∷ g) q positive i j e) (quotient_within_exact p w f (u ∷ g) q e)

    -- there is none where u doesn't divide the first term that is left
    pub division_stops : (ts : Polynomial) (t : Term) (rest : Polynomial) → IsDivision p n u g f ts (t ∷ rest) → monomial_divides u.0 t.0 ≡ false → quotient_within p w f (u ∷ g) ≡ None
    division_stops ts t rest d undivided = quotient_within_none p w f (u ∷ g) (λ q e. never (quotient_begins ts (t ∷ rest) q d e))
      where
        never : {q : Polynomial} → (k : Polynomial) × IsPolynomial p n k × (q ≡ ts ++ k) × (product_of p k (u ∷ g) ≡ t ∷ rest) → ⊥
        never ([], ik, begins, product) = cc
        never (x ∷ k, ik, begins, product) =
            let start = first_term_of_product p n x u k g prime ik j in
            let t_is = same_first t (term (monomial_product x.0 u.0) (x.1 * u.1 % p)) rest start.0 (sym product ∙ start.1) in
            let divides = ap (λ y. monomial_divides u.0 y.0) t_is ∙ monomial_divides-product u.0 x.0 in
            cc

    -- nor where the terms so far are too many already
    pub division_too_long : (ts rest : Polynomial) → IsDivision p n u g f ts rest → f ≢ [] → w < length ts * length (u ∷ g) → quotient_within p w f (u ∷ g) ≡ None
    division_too_long ts rest d some long = quotient_within_none p w f (u ∷ g) (λ q e. never q e (quotient_begins ts rest q d e))
      where
        never : (q : Polynomial) → quotient_within p w f (u ∷ g) ≡ Some q → (k : Polynomial) × IsPolynomial p n k × (q ≡ ts ++ k) × (product_of p k (u ∷ g) ≡ rest) → ⊥
        never q e h =
            let terms = terms_from_fits p n w f (u ∷ g) prime i j (λ x. cc) q (IsPolynomial-quotient_within p n w f (u ∷ g) q positive i j e) (quotient_within_exact p w f (u ∷ g) q e) some (quotient_within_fits p w f (u ∷ g) q e) in
            let count = ap length h.2 ∙ length-append ts h.0 in
            let more : length ts * length (u ∷ g) ≤ length q * length (u ∷ g) = mul-le-mul (omega arith) (omega arith) in
            omega arith

    -- nor where the next term's exponents and the degrees of the divisor pass a degree of f
    pub division_too_high : (ts : Polynomial) (t : Term) (rest : Polynomial) (v : ℕ) → IsDivision p n u g f ts (t ∷ rest) → f ≢ [] → degree_in v f < exponent_of v (term_over p t u).0 + degree_in v (u ∷ g) → quotient_within p w f (u ∷ g) ≡ None
    division_too_high ts t rest v d some high = quotient_within_none p w f (u ∷ g) (λ q e. never q e (quotient_begins ts (t ∷ rest) q d e))
      where
        never : (q : Polynomial) → quotient_within p w f (u ∷ g) ≡ Some q → (k : Polynomial) × IsPolynomial p n k × (q ≡ ts ++ k) × (product_of p k (u ∷ g) ≡ t ∷ rest) → ⊥
        never q e ([], ik, begins, product) = cc
        never q e (x ∷ k, ik, begins, product) =
            let start = first_term_of_product p n x u k g prime ik j in
            let t_is = same_first t (term (monomial_product x.0 u.0) (x.1 * u.1 % p)) rest start.0 (sym product ∙ start.1) in
            let s_is : term_over p t u ≡ x = ap (λ y. term_over p y u) t_is ∙ term_over-product p prime x u (ik.0 ∙ sym j.0) ik.2 j.1 j.2 in
            let exponents = ap (λ y. exponent_of v y.0) s_is in
            let adds = quotient_degree p n q (u ∷ g) f prime (IsPolynomial-quotient_within p n w f (u ∷ g) q positive i j e) j (quotient_within_exact p w f (u ∷ g) q e) some v in
            let below = subst (λ y. exponent_of v x.0 ≤ degree_in v y) (sym begins) (exponent_of_member v ts x k) in
            omega arith
