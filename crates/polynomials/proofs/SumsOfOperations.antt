-- Weighted sums of what the operations on polynomials make, in a ring of the characteristic.
use Rattle.std.proofs.Common.{◌≡◌, ℕ, zero, suc, ◌+◌, ◌*◌, ◌%◌, List, [], ◌∷◌, ◌++◌, replicate, refl, sym, ap, ap₂, ◌∙◌, le_of_lt}
use Rattle.std.specs.declared.cmp.Ordering.{Ordering}
use Rattle.std.specs.declared.cmp.Ordering.TheVariants.{Less, Equal, Greater}
use Rattle.polynomials.specs.Monomials.{Monomial, monomial_order, monomial_product}
use Rattle.polynomials.specs.MonomialOrders.{monomial_order_same}
use Rattle.polynomials.specs.Polynomials.{Term, term, Polynomial, IsPolynomial, with_first, added_beside, with_term, collected, sum_of, product_of, negative_of, difference_of, scaled, constant_of, term_products}
use Rattle.polynomials.specs.Rings.{Ring, natural_in, weighted_sum, HasCharacteristic}
use Rattle.polynomials.proofs.RingLaws.{plus_assoc, nil-plus, plus-nil, plus_left_comm, times_assoc, one-times, plus-times, nil-times, times-nil, times-plus, neg-nil, neg-sum, neg-times}
use Rattle.polynomials.proofs.NaturalsInRings.{natural_in-add, natural_in-mul, natural_in-one, natural_in-mod, natural_in-opposite}
use Rattle.polynomials.proofs.WeightedSums.{weighted_sum-append, weighted_sum-term_products, weighted_sum-single}

module _ {A : Type 0} (r : Ring A) where
  open r use {◌⊕◌, ◌⊗◌, nil, one, neg}

  -- a term before f, dropped where its coefficient is 0
  pub weighted_sum-with_first : (h : Monomial → A) (t : Term) (f : Polynomial) → weighted_sum r h (with_first t f) ≡ (natural_in r t.1 ⊗ h t.0) ⊕ weighted_sum r h f
  weighted_sum-with_first h (m, zero) f = sym (ap (λ w. w ⊕ weighted_sum r h f) (nil-times r (h m)) ∙ nil-plus r (weighted_sum r h f))
  weighted_sum-with_first h (m, suc c) f = refl

  module _ (p : ℕ) (characteristic : HasCharacteristic r p) (h : Monomial → A) where
    -- a term before f, its coefficient reduced
    pub weighted_sum-reduced_first : (m : Monomial) (c : ℕ) (f : Polynomial) → weighted_sum r h (with_first (term m (c % p)) f) ≡ (natural_in r c ⊗ h m) ⊕ weighted_sum r h f
    weighted_sum-reduced_first m c f = weighted_sum-with_first h (term m (c % p)) f ∙ ap (λ w. (w ⊗ h m) ⊕ weighted_sum r h f) (natural_in-mod r p characteristic c)

    -- a term beside another, in each case of the order
    weighted_sum-added_beside : (t u : Term) (f later : Polynomial) (o : Ordering) → monomial_order t.0 u.0 ≡ o → weighted_sum r h later ≡ (natural_in r t.1 ⊗ h t.0) ⊕ weighted_sum r h f → weighted_sum r h (added_beside p t u f later o) ≡ (natural_in r t.1 ⊗ h t.0) ⊕ ((natural_in r u.1 ⊗ h u.0) ⊕ weighted_sum r h f)
    weighted_sum-added_beside t u f later Greater e ih = weighted_sum-reduced_first t.0 t.1 (u ∷ f)
    weighted_sum-added_beside t u f later Equal e ih = weighted_sum-reduced_first u.0 (t.1 + u.1) f ∙ ap (λ w. (w ⊗ h u.0) ⊕ weighted_sum r h f) (natural_in-add r t.1 u.1) ∙ ap (λ w. w ⊕ weighted_sum r h f) (plus-times r (natural_in r t.1) (natural_in r u.1) (h u.0)) ∙ plus_assoc r (natural_in r t.1 ⊗ h u.0) (natural_in r u.1 ⊗ h u.0) (weighted_sum r h f) ∙ ap (λ m. (natural_in r t.1 ⊗ h m) ⊕ ((natural_in r u.1 ⊗ h u.0) ⊕ weighted_sum r h f)) (sym (monomial_order_same t.0 u.0 e))
    weighted_sum-added_beside t u f later Less e ih = ap (λ w. (natural_in r u.1 ⊗ h u.0) ⊕ w) ih ∙ plus_left_comm r (natural_in r u.1 ⊗ h u.0) (natural_in r t.1 ⊗ h t.0) (weighted_sum r h f)

    -- f with one term added
    pub weighted_sum-with_term : (t : Term) (f : Polynomial) → weighted_sum r h (with_term p t f) ≡ (natural_in r t.1 ⊗ h t.0) ⊕ weighted_sum r h f
    weighted_sum-with_term t [] = weighted_sum-reduced_first t.0 t.1 []
    weighted_sum-with_term t (u ∷ f) = weighted_sum-added_beside t u f (with_term p t f) (monomial_order t.0 u.0) refl (weighted_sum-with_term t f)

    -- collecting terms doesn't change the sum
    pub weighted_sum-collected : (ts : List Term) → weighted_sum r h (collected p ts) ≡ weighted_sum r h ts
    weighted_sum-collected [] = refl
    weighted_sum-collected (t ∷ ts) = weighted_sum-with_term t (collected p ts) ∙ ap (λ w. (natural_in r t.1 ⊗ h t.0) ⊕ w) (weighted_sum-collected ts)

    -- the sum
    pub weighted_sum-sum_of : (f g : Polynomial) → weighted_sum r h (sum_of p f g) ≡ weighted_sum r h f ⊕ weighted_sum r h g
    weighted_sum-sum_of f g = weighted_sum-collected (f ++ g) ∙ weighted_sum-append r h f g

    -- the product, as a double sum
    pub weighted_sum-product_of : (f g : Polynomial) → weighted_sum r h (product_of p f g) ≡ weighted_sum r (λ l. weighted_sum r (λ m. h (monomial_product l m)) g) f
    weighted_sum-product_of f g = weighted_sum-collected (term_products f g) ∙ weighted_sum-term_products r h f g

    -- the negative
    pub weighted_sum-negative_of : (n : ℕ) (f : Polynomial) → IsPolynomial p n f → weighted_sum r h (negative_of p f) ≡ neg (weighted_sum r h f)
    weighted_sum-negative_of n [] i = sym (neg-nil r)
    weighted_sum-negative_of n (t ∷ f) i = ap₂ ◌⊕◌ (ap (λ w. w ⊗ h t.0) (natural_in-opposite r p characteristic t.1 (le_of_lt i.2)) ∙ neg-times r (natural_in r t.1) (h t.0)) (weighted_sum-negative_of n f i.4) ∙ sym (neg-sum r (natural_in r t.1 ⊗ h t.0) (weighted_sum r h f))

    -- the difference
    pub weighted_sum-difference_of : (n : ℕ) (f g : Polynomial) → IsPolynomial p n g → weighted_sum r h (difference_of p f g) ≡ weighted_sum r h f ⊕ neg (weighted_sum r h g)
    weighted_sum-difference_of n f g i = weighted_sum-sum_of f (negative_of p g) ∙ ap (λ w. weighted_sum r h f ⊕ w) (weighted_sum-negative_of n g i)

    -- the multiple by a residue
    pub weighted_sum-scaled : (c : ℕ) (f : Polynomial) → weighted_sum r h (scaled p c f) ≡ natural_in r c ⊗ weighted_sum r h f
    weighted_sum-scaled c [] = sym (times-nil r (natural_in r c))
    weighted_sum-scaled c (t ∷ f) = ap₂ ◌⊕◌ (ap (λ w. w ⊗ h t.0) (natural_in-mod r p characteristic (c * t.1) ∙ natural_in-mul r c t.1) ∙ times_assoc r (natural_in r c) (natural_in r t.1) (h t.0)) (weighted_sum-scaled c f) ∙ sym (times-plus r (natural_in r c) (natural_in r t.1 ⊗ h t.0) (weighted_sum r h f))

  -- a constant
  pub weighted_sum-constant_of : (h : Monomial → A) (n c : ℕ) → weighted_sum r h (constant_of n c) ≡ natural_in r c ⊗ h (replicate n 0)
  weighted_sum-constant_of h n c = weighted_sum-with_first h (term (replicate n 0) c) [] ∙ plus-nil r (natural_in r c ⊗ h (replicate n 0))

  -- a monomial with the coefficient 1
  pub weighted_sum-monomial : (h : Monomial → A) (m : Monomial) → weighted_sum r h (term m 1 ∷ []) ≡ h m
  weighted_sum-monomial h m = weighted_sum-single r h (term m 1) ∙ ap (λ w. w ⊗ h m) (natural_in-one r) ∙ one-times r (h m)
