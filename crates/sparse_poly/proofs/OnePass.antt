-- A difference of multiples by single terms is a sum of multiples by terms.
use Rattle.std.proofs.Common.{◌≡◌, ◌<◌, ◌-◌, ◌%◌, ℕ, true, List, [], ◌∷◌, length, get_or, sym, ap, ap₂, ◌∙◌, subst, arith}
use Rattle.std.proofs.Math.Nat.{mod-eq_of_lt}
use Rattle.polynomials.specs.Polynomials.{Term, term, Polynomial, IsPolynomial, sum_of, product_of, negative_of, difference_of}
use Rattle.polynomials.specs.Views.{tail_in}
use Rattle.polynomials.specs.Fits.{fits}
use Rattle.polynomials.proofs.RingLaws.{neg-times}
use Rattle.polynomials.proofs.Canonical.{IsPolynomial-negative_of}
use Rattle.polynomials.proofs.PolynomialRing.{CanonicalPolynomial, polynomial_ring}
use Rattle.sparse_poly.specs.Pairs.{FitsEach, PairsFit}
use Rattle.sparse_poly.proofs.FittingPairs.{PairsFit-from_fits}
use Rattle.sparse_poly.proofs.TailFits.{fits-tail_in}

-- one item is the list
one_item : (f : List Term) (x : Term) → length f ≡ 1 → x ≡ get_or f 0 x → f ≡ x ∷ []
one_item [] x count at = absurd (omega arith)
one_item (t ∷ []) x count at = ap (λ y. y ∷ []) (sym at)
one_item (t ∷ u ∷ f) x count at = absurd (omega arith)

-- the first term of a polynomial that has one
pub only_term : (f g : List Term) (x : Term) (count : ℕ) → g ≡ f → count ≡ length f → count ≡ 1 → x ≡ get_or g 0 x → f ≡ x ∷ []
only_term f g x count same counted one at = one_item f x (omega arith) (at ∙ ap (λ l. get_or l 0 x) same)

-- where a product by one term fits, the term fits with each of the tail
pub FitsEach-tail_in : (w v : ℕ) (l f : Polynomial) (t : Term) (a : List Term) → l ≡ t ∷ [] → a ≡ tail_in v f → fits w l f ≡ true → FitsEach t.0 a
FitsEach-tail_in w v l f t a l_is a_is fit = subst (FitsEach t.0) (sym a_is) (subst (λ k. PairsFit k (tail_in v f)) l_is (PairsFit-from_fits w l (tail_in v f) (fits-tail_in w v l f fit))).0

-- the negative of a residue other than 0
negative_residue : (p c : ℕ) → 0 < c → c < p → (p - c) % p ≡ p - c
negative_residue p c some below = mod-eq_of_lt (let smaller : p - c < p = omega arith in smaller)

module _ (p n : ℕ) (u : Term) (i : IsPolynomial p n (u ∷ [])) (c : ℕ) (is : c ≡ (p - u.1) % p) where
  many : 1 < p
  many = let some = i.1 in let below = i.2 in omega arith

  -- a term with the negative coefficient
  negative_term : term u.0 c ∷ [] ≡ negative_of p (u ∷ [])
  negative_term = ap (λ d. term u.0 d ∷ []) (is ∙ negative_residue p u.1 i.1 i.2)

  -- is canonical
  pub IsPolynomial-negative_term : IsPolynomial p n (term u.0 c ∷ [])
  IsPolynomial-negative_term = subst (IsPolynomial p n) (sym negative_term) (IsPolynomial-negative_of p n (u ∷ []) i)

  -- and gives the negative multiple
  negative_multiple : (b : Polynomial) → IsPolynomial p n b → product_of p (term u.0 c ∷ []) b ≡ negative_of p (product_of p (u ∷ []) b)
  negative_multiple b j =
      ap (λ k. product_of p k b) negative_term
      ∙ ap (λ (x : CanonicalPolynomial p n). x.0) (neg-times (polynomial_ring p n many) (u ∷ [], i) (b, j))

  -- so a sum of multiples is the difference
  pub difference_by_terms : (l m s r a b h : Polynomial) (t : Term) → l ≡ t ∷ [] → m ≡ u ∷ [] → a ≡ s → b ≡ r → IsPolynomial p n b → h ≡ sum_of p (product_of p (t ∷ []) a) (product_of p (term u.0 c ∷ []) b) → h ≡ difference_of p (product_of p l s) (product_of p m r)
  difference_by_terms l m s r a b h t l_is m_is a_is b_is j made =
      made
      ∙ (ap (sum_of p (product_of p (t ∷ []) a)) (negative_multiple b j)
      ∙ ap₂ (λ x y. sum_of p x (negative_of p y)) (ap₂ (product_of p) (sym l_is) a_is) (ap₂ (product_of p) (sym m_is) b_is))
