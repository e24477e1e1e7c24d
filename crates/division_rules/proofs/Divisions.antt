-- A division on the way: the quotient's terms so far, and what is left to divide.
use Rattle.std.proofs.Common.{◌≡◌, ℕ, ◌*◌, ◌%◌, ◌<◌, true, List, [], ◌∷◌, ◌++◌, length, refl, sym, ap, ap₂, ◌∙◌, subst, mod-lt, arith}
use Rattle.std.specs.declared.cmp.Ordering.TheVariants.{Less}
use Rattle.polynomials.specs.Primes.{IsPrime, IsInverse, inverse_of}
use Rattle.polynomials.specs.Monomials.{Monomial, monomial_order, monomial_product}
use Rattle.polynomials.specs.Polynomials.{Term, term, Polynomial, StartsBelow, IsPolynomial, sum_of, product_of, negative_of, difference_of}
use Rattle.polynomials.specs.Rings.{Ring}
use Rattle.polynomials.proofs.Monomialwise.{EachMonomial, EachMonomial-sum_of, EachMonomial-negative_of}
use Rattle.polynomials.proofs.PolynomialLaws.{zero-sum_of}
use Rattle.polynomials.proofs.InverseLemmas.{inverse_of_is}
use Rattle.polynomials.proofs.MonicLemmas.{inverse_positive, residue_product_positive}
use Rattle.polynomials.proofs.Canonical.{IsPolynomial-product_of}
use Rattle.polynomials.proofs.SamePolynomials.{collected_itself}
use Rattle.polynomials.proofs.PolynomialRing.{polynomial_ring}
use Rattle.polynomials.proofs.FirstTerms.{AreBelow-from_StartsBelow, StartsBelow-from_AreBelow, first_term_of_product}
use Rattle.polynomials.proofs.Solver.{var, ◌:+◌, ◌:-◌, solve}
use Rattle.division_rules.specs.Quotients.{monomial_divides, term_over}
use Rattle.division_rules.proofs.TermQuotients.{product-monomial_over, length-monomial_over, product-residue_over}

-- each monomial of ts is greater than m
abbrev pub AreAbove : Monomial → List Term → Type 0
AreAbove m ts = EachMonomial (λ l. monomial_order m l ≡ Less) ts

-- a smaller term after canonical ones
pub IsPolynomial-push : (p n : ℕ) (ts : Polynomial) (s : Term) → length s.0 ≡ n → 0 < s.1 → s.1 < p → AreAbove s.0 ts → IsPolynomial p n ts → IsPolynomial p n (ts ++ s ∷ [])
IsPolynomial-push p n [] s long some small above i = (long, some, small, tt, tt)
IsPolynomial-push p n (t ∷ ts) s long some small above i = (i.0, i.1, i.2, next ts i.3 above.0, IsPolynomial-push p n ts s long some small above.1 i.4)
  where
    next : (ts : Polynomial) → StartsBelow t.0 ts → monomial_order s.0 t.0 ≡ Less → StartsBelow t.0 (ts ++ s ∷ [])
    next [] below less = less
    next (x ∷ ts) below less = below

-- a list with a last term is the sum of both
pub append_is_sum : (p n : ℕ) (ts : Polynomial) (s : Term) → IsPolynomial p n (ts ++ s ∷ []) → sum_of p ts (s ∷ []) ≡ ts ++ s ∷ []
append_is_sum p n ts s i = collected_itself p n (ts ++ s ∷ []) i

difference_of_rests : {A : Type 0} (r : Ring A) (x y z : A) → r.◌⊕◌ (r.◌⊕◌ x y) (r.neg (r.◌⊕◌ x z)) ≡ r.◌⊕◌ y (r.neg z)
difference_of_rests r x y z = solve r (x ∷ y ∷ z ∷ []) ((var 0 :+ var 1) :- (var 0 :+ var 2)) (var 1 :- var 2) refl

-- the same first term cancels
pub difference_of_same_first : (p n : ℕ) → 1 < p → (t : Term) (f g : Polynomial) → IsPolynomial p n (t ∷ f) → IsPolynomial p n (t ∷ g) → difference_of p (t ∷ f) (t ∷ g) ≡ difference_of p f g
difference_of_same_first p n many t f g i j = ap₂ (difference_of p) (sym (collected_itself p n (t ∷ f) i)) (sym (collected_itself p n (t ∷ g) j)) ∙ ap (λ x. x.0) (difference_of_rests (polynomial_ring p n many) (t ∷ [], (i.0, i.1, i.2, tt, tt)) (f, i.4) (g, j.4))

-- of a division of f by u ∷ g: the terms ts of the quotient so far, and the rest
pub record IsDivision (p n : ℕ) (u : Term) (g f ts rest : Polynomial) : Type 0 where
  pub terms_canonical : IsPolynomial p n ts
  pub rest_canonical : IsPolynomial p n rest
  pub whole : sum_of p (product_of p ts (u ∷ g)) rest ≡ f
  -- each product of a term by u is greater than the rest
  pub falling : EachMonomial (λ m. StartsBelow (monomial_product m u.0) rest) ts
  -- each factor of f begins with those terms, and what is left of it is a factor of the rest
  pub prefix : (q : Polynomial) → IsPolynomial p n q → product_of p q (u ∷ g) ≡ f → (k : Polynomial) × IsPolynomial p n k × (q ≡ ts ++ k) × (product_of p k (u ∷ g) ≡ rest)

-- a division begins with no term, and all of f
pub division_begins : (p n : ℕ) (u : Term) (g f : Polynomial) → 0 < p → IsPolynomial p n f → IsDivision p n u g f [] f
division_begins p n u g f positive i = record {
  terms_canonical = tt;
  rest_canonical = i;
  whole = zero-sum_of p positive n f i;
  falling = tt;
  prefix = λ q iq product. (q, iq, refl, product);
}

module _ (p n : ℕ) (prime : IsPrime p) (u : Term) (g : Polynomial) (j : IsPolynomial p n (u ∷ g)) where
  positive : 0 < p
  positive = omega (arith, prime.many)

  module _ (t : Term) (f : Polynomial) (i : IsPolynomial p n (t ∷ f)) (divides : monomial_divides u.0 t.0 ≡ true) where
    -- the quotient of the first terms
    abbrev pub first_quotient : Term
    first_quotient = term_over p t u

    -- what it takes away
    abbrev pub multiple_taken : Polynomial
    multiple_taken = product_of p (first_quotient ∷ []) (u ∷ g)

    -- the coefficient of that quotient isn't 0
    first_quotient_positive : 0 < first_quotient.1
    first_quotient_positive = residue_product_positive p prime t.1 (inverse_of p u.1) i.1 i.2 (inverse_positive p u.1 (inverse_of p u.1) inverse) inverse.0
      where
        inverse : IsInverse p u.1 (inverse_of p u.1)
        inverse = inverse_of_is p u.1 prime j.1 j.2

    -- as a polynomial it is canonical
    pub first_quotient_canonical : IsPolynomial p n (first_quotient ∷ [])
    first_quotient_canonical = (length-monomial_over t.0 u.0 ∙ i.0, first_quotient_positive, mod-lt (t.1 * inverse_of p u.1) positive, tt, tt)

    -- times u it is t
    pub first_quotient_times_first : term (monomial_product first_quotient.0 u.0) (first_quotient.1 * u.1 % p) ≡ t
    first_quotient_times_first = ap₂ term (product-monomial_over u.0 t.0 divides) (product-residue_over p prime t.1 u.1 i.2 j.1 j.2)

    -- the multiple of u ∷ g that is taken away begins with t
    multiple_begins : (k : Polynomial) × (multiple_taken ≡ t ∷ k)
    multiple_begins =
        let start = first_term_of_product p n first_quotient u [] g prime first_quotient_canonical j in
        (start.0, start.1 ∙ ap (λ x. x ∷ start.0) first_quotient_times_first)

    -- and is canonical
    pub multiple_canonical : IsPolynomial p n multiple_taken
    multiple_canonical = IsPolynomial-product_of p n positive (first_quotient ∷ []) (u ∷ g) first_quotient_canonical j

    -- so what is left begins below t
    pub rest_falls : StartsBelow t.0 (difference_of p (t ∷ f) multiple_taken)
    rest_falls = subst (StartsBelow t.0) (sym same) (StartsBelow-from_AreBelow t.0 (difference_of p f k) (EachMonomial-sum_of (λ l. monomial_order l t.0 ≡ Less) p f (negative_of p k) (AreBelow-from_StartsBelow p n t.0 f i.4 i.3) (EachMonomial-negative_of (λ l. monomial_order l t.0 ≡ Less) p k (AreBelow-from_StartsBelow p n t.0 k ik.4 ik.3))))
      where
        k : Polynomial
        k = multiple_begins.0

        ik : IsPolynomial p n (t ∷ k)
        ik = subst (IsPolynomial p n) multiple_begins.1 multiple_canonical

        same : difference_of p (t ∷ f) multiple_taken ≡ difference_of p f k
        same = ap (difference_of p (t ∷ f)) multiple_begins.1 ∙ difference_of_same_first p n prime.many t f k i ik
