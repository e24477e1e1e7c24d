-- A division on the way, from terms of the quotient and what their product leaves.
use Rattle.std.proofs.Common.{◌≡◌, ℕ, ◌*◌, ◌%◌, ◌<◌, ◌≤◌, true, [], ◌∷◌, ◌++◌, length, get_or, append-nil, refl, sym, ap, ap₂, ◌∙◌, subst, inl, inr, arith}
use Rattle.std.specs.declared.cmp.Ordering.TheVariants.{Less}
use Rattle.polynomials.specs.Primes.{IsPrime}
use Rattle.polynomials.specs.Monomials.{Monomial, monomial_order, monomial_product}
use Rattle.polynomials.specs.MonomialOrders.{monomial_order-product, monomial_product_comm}
use Rattle.polynomials.specs.Polynomials.{Term, term, Polynomial, StartsBelow, IsPolynomial, sum_of, product_of, difference_of}
use Rattle.polynomials.specs.Fits.{fits}
use Rattle.polynomials.specs.Rings.{Ring}
use Rattle.polynomials.proofs.Monomialwise.{EachMonomial, EachMonomial-implied, EachMonomial-both, HaveLength-from_IsPolynomial}
use Rattle.polynomials.proofs.PolynomialLaws.{sum_of-zero}
use Rattle.polynomials.proofs.Canonical.{StartsBelow_trans, IsPolynomial-difference_of, IsPolynomial-product_of}
use Rattle.polynomials.proofs.SamePolynomials.{collected_itself}
use Rattle.polynomials.proofs.PolynomialRing.{polynomial_ring}
use Rattle.polynomials.proofs.FirstTerms.{first_term_of_product}
use Rattle.polynomials.proofs.FitsLemmas.{fits_in_each_variable}
use Rattle.polynomials.proofs.Solver.{var, ◌:+◌, ◌:-◌, ◌:*◌, solve}
use Rattle.division_rules.proofs.Divisions.{AreAbove, IsDivision}

-- a difference times a third
times_difference : {A : Type 0} (r : Ring A) (x y z : A) → r.◌⊗◌ (r.◌⊕◌ x (r.neg y)) z ≡ r.◌⊕◌ (r.◌⊗◌ x z) (r.neg (r.◌⊗◌ y z))
times_difference r x y z = solve r (x ∷ y ∷ z ∷ []) ((var 0 :- var 1) :* var 2) (var 0 :* var 2 :- var 1 :* var 2) refl

-- what is taken away is added again
taken_and_added : {A : Type 0} (r : Ring A) (x y : A) → r.◌⊕◌ y (r.◌⊕◌ x (r.neg y)) ≡ x
taken_and_added r x y = solve r (x ∷ y ∷ []) (var 1 :+ (var 0 :- var 1)) (var 0) refl

-- a polynomial without itself is 0
pub difference_of_itself : (p n : ℕ) → 1 < p → (f : Polynomial) → IsPolynomial p n f → difference_of p f f ≡ []
difference_of_itself p n many f i = ap (λ x. x.0) (nothing_left (polynomial_ring p n many) (f, i))
  where
    nothing_left : {A : Type 0} (r : Ring A) (x : A) → r.◌⊕◌ x (r.neg x) ≡ r.nil
    nothing_left r x = r.add_comm x (r.neg x) ∙ r.neg-add x

-- canonical terms before smaller ones
IsPolynomial-append : (p n : ℕ) (ts : Polynomial) (x : Term) (k : Polynomial) → AreAbove x.0 ts → IsPolynomial p n ts → IsPolynomial p n (x ∷ k) → IsPolynomial p n (ts ++ x ∷ k)
IsPolynomial-append p n [] x k above i j = j
IsPolynomial-append p n (t ∷ ts) x k above i j = (i.0, i.1, i.2, next ts i.3 above.0, IsPolynomial-append p n ts x k above.1 i.4 j)
  where
    next : (ts : Polynomial) → StartsBelow t.0 ts → monomial_order x.0 t.0 ≡ Less → StartsBelow t.0 (ts ++ x ∷ k)
    next [] below less = less
    next (y ∷ ts) below less = below

-- a common factor doesn't change the order
pub order_of_multiples : (k l m : Monomial) → length l ≡ length m → monomial_order (monomial_product l k) (monomial_product m k) ≡ monomial_order l m
order_of_multiples k l m same = ap₂ monomial_order (monomial_product_comm l k) (monomial_product_comm m k) ∙ monomial_order-product k l m same

-- what starts below the last multiple starts below each
falls_below : (p n : ℕ) (u : Monomial) (rest ts : Polynomial) (s : Term) → IsPolynomial p n (ts ++ s ∷ []) → StartsBelow (monomial_product s.0 u) rest → EachMonomial (λ m. StartsBelow (monomial_product m u) rest) (ts ++ s ∷ [])
falls_below p n u rest [] s i below = (below, tt)
falls_below p n u rest (t ∷ ts) s i below =
    let later = falls_below p n u rest ts s i.4 below in
    (before ts i.3 i.4 later, later)
  where
    above : (x : Term) → length x.0 ≡ n → monomial_order x.0 t.0 ≡ Less → StartsBelow (monomial_product x.0 u) rest → StartsBelow (monomial_product t.0 u) rest
    above x long less start = StartsBelow_trans (monomial_product x.0 u) (monomial_product t.0 u) rest start (order_of_multiples u x.0 t.0 (long ∙ sym i.0) ∙ less)

    before : (ts : Polynomial) → StartsBelow t.0 (ts ++ s ∷ []) → IsPolynomial p n (ts ++ s ∷ []) → EachMonomial (λ m. StartsBelow (monomial_product m u) rest) (ts ++ s ∷ []) → StartsBelow (monomial_product t.0 u) rest
    before [] less j each = above s j.0 less each.0
    before (x ∷ ts) less j each = above x j.0 less each.0

-- what stands at the first place is the first term
pub first_is : (s b : Polynomial) (t u : Term) (g : Polynomial) → s ≡ b → t ≡ get_or s 0 t → b ≡ u ∷ g → t ≡ u
first_is s b t u g same is whole = is ∙ ap (λ (l : Polynomial). get_or l 0 t) (same ∙ whole)

-- what fits has a product of the numbers of terms that is within the width
pub few_from_fits : (w : ℕ) (q b : Polynomial) → fits w q b ≡ true → length q * length b ≤ w
few_from_fits w q b fit = elim ((fits_in_each_variable w q b).0 fit) [
  | inl none ↦ rw none (omega arith)
  | inr (inl none) ↦ rw none (omega arith)
  | inr (inr both) ↦ both.0
]

module _ (p n : ℕ) (prime : IsPrime p) (u : Term) (g : Polynomial) (j : IsPolynomial p n (u ∷ g)) (f q rest : Polynomial) (i : IsPolynomial p n f) (iq : IsPolynomial p n q) (left : rest ≡ difference_of p f (product_of p q (u ∷ g))) where
  positive : 0 < p
  positive = omega (arith, prime.many)

  im : IsPolynomial p n (product_of p q (u ∷ g))
  im = IsPolynomial-product_of p n positive q (u ∷ g) iq j

  module _ (falling : EachMonomial (λ m. StartsBelow (monomial_product m u.0) rest) q) where
    -- a factor of the rest comes after the terms
    joined : (k : Polynomial) → IsPolynomial p n k → product_of p k (u ∷ g) ≡ rest → sum_of p q k ≡ q ++ k
    joined [] ik product = sum_of-zero p positive n q iq ∙ sym (append-nil q)
    joined (x ∷ k) ik product = collected_itself p n (q ++ x ∷ k) (IsPolynomial-append p n q x k above iq ik)
      where
        start : (later : Polynomial) × (rest ≡ term (monomial_product x.0 u.0) (x.1 * u.1 % p) ∷ later)
        start = let first = first_term_of_product p n x u k g prime ik j in (first.0, sym product ∙ first.1)

        greater : (m : Monomial) → StartsBelow (monomial_product m u.0) rest × (length m ≡ n) → monomial_order x.0 m ≡ Less
        greater m h = sym (order_of_multiples u.0 x.0 m (ik.0 ∙ sym h.1)) ∙ subst (StartsBelow (monomial_product m u.0)) start.1 h.0

        above : AreAbove x.0 q
        above = EachMonomial-implied (λ m. StartsBelow (monomial_product m u.0) rest × (length m ≡ n)) (λ m. monomial_order x.0 m ≡ Less) greater q (EachMonomial-both (λ m. StartsBelow (monomial_product m u.0) rest) (λ m. length m ≡ n) q falling (HaveLength-from_IsPolynomial p n q iq))

    -- each factor of f begins with the terms
    begins_with : (h : Polynomial) → IsPolynomial p n h → product_of p h (u ∷ g) ≡ f → (k : Polynomial) × IsPolynomial p n k × (h ≡ q ++ k) × (product_of p k (u ∷ g) ≡ rest)
    begins_with h ih product = (
      difference_of p h q,
      ik,
      sym (ap (λ x. x.0) (taken_and_added (polynomial_ring p n prime.many) (h, ih) (q, iq))) ∙ joined (difference_of p h q) ik leaves,
      leaves,
    )
      where
        ik : IsPolynomial p n (difference_of p h q)
        ik = IsPolynomial-difference_of p n positive h q ih iq

        leaves : product_of p (difference_of p h q) (u ∷ g) ≡ rest
        leaves =
            ap (λ x. x.0) (times_difference (polynomial_ring p n prime.many) (h, ih) (q, iq) (u ∷ g, j))
            ∙ ap (λ y. difference_of p y (product_of p q (u ∷ g))) product ∙ sym left

    division_from_terms : IsDivision p n u g f q rest
    division_from_terms = record {
      terms_canonical = iq;
      rest_canonical = subst (IsPolynomial p n) (sym left) (IsPolynomial-difference_of p n positive f (product_of p q (u ∷ g)) i im);
      whole = ap (sum_of p (product_of p q (u ∷ g))) left ∙ ap (λ x. x.0) (taken_and_added (polynomial_ring p n prime.many) (f, i) (product_of p q (u ∷ g), im));
      falling = falling;
      prefix = begins_with;
    }

  -- where the last of the terms has passed the rest, the division has come to them
  pub division_begun : (last : Monomial) → (earlier : Polynomial) × ((c : ℕ) × (q ≡ earlier ++ term last c ∷ [])) → StartsBelow (monomial_product last u.0) rest → IsDivision p n u g f q rest
  division_begun last at below =
      division_from_terms
      (subst (EachMonomial (λ m. StartsBelow (monomial_product m u.0) rest)) (sym at.1.1)
      (falls_below p n u.0 rest at.0 (term last at.1.0) (subst (IsPolynomial p n) at.1.1 iq) below))
