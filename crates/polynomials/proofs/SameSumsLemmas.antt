-- Edits of a list of terms that keep its weighted sums.
use Rattle.std.proofs.Common.{◌≡◌, ℕ, zero, suc, ◌+◌, ◌%◌, ◌<◌, List, [], ◌∷◌, ◌++◌, map, length, get_or, set, replicate, swap, IsPermutation, refl, sym, ap, ap₂, ◌∙◌, inl, inr, arith}
use Rattle.std.proofs.lemmas.Bool.{cases_eq}
use Rattle.std.proofs.lemmas.List.{length-set, get_or-set_same, get_or-set_other}
use Rattle.std.proofs.lemmas.List.Edits.{swap_is}
use Rattle.std.proofs.lemmas.List.Sorted.{IsPermutation-keeps}
use Rattle.polynomials.specs.Monomials.{Monomial, monomial_product}
use Rattle.polynomials.specs.Polynomials.{Term, term, Polynomial, IsPolynomial, sum_of, product_of, scaled, term_product, term_products}
use Rattle.polynomials.specs.Rings.{Ring, natural_in, weighted_sum}
use Rattle.polynomials.proofs.RingLaws.{plus_comm, plus_assoc, plus_left_comm, nil-plus, nil-times, plus-times, plus_cancel_right}
use Rattle.polynomials.proofs.NaturalsInRings.{natural_in-add, natural_in-mod}
use Rattle.polynomials.proofs.WeightedSums.{weighted_sum-append, weighted_sum-append_comm, weighted_sum-each, weighted_sum-map}
use Rattle.polynomials.proofs.SumsOfOperations.{weighted_sum-scaled}
use Rattle.polynomials.proofs.Monomialwise.{EachMonomial-implied, HaveLength-from_IsPolynomial}
use Rattle.polynomials.specs.MonomialOrders.{replicate-monomial_product}
use Rattle.polynomials.proofs.Residues.{Residue, residues, residues_characteristic}
use Rattle.polynomials.proofs.Canonical.{IsPolynomial-sum_of, IsPolynomial-product_of}
use Rattle.polynomials.proofs.SamePolynomials.{SameSums, SameSums-trans, SameSums-sym, SameSums-collected, same_from_sums}

module _ {A : Type 0} (r : Ring A) (h : Monomial → A) where
  open r use {◌⊕◌, ◌⊗◌, nil, one, neg}

  -- what a term adds to the sum
  abbrev pub term_weight : Term → A
  term_weight t = natural_in r t.1 ⊗ h t.0

  -- one term in place of another
  pub weighted_sum-set : (l : List Term) (i : ℕ) (t d : Term) → i < length l → weighted_sum r h (set l i t) ⊕ term_weight (get_or l i d) ≡ weighted_sum r h l ⊕ term_weight t
  weighted_sum-set [] i t d below = absurd (omega arith)
  weighted_sum-set (u ∷ l) zero t d below = plus_comm r (term_weight t ⊕ weighted_sum r h l) (term_weight u) ∙ ap (λ w. term_weight u ⊕ w) (plus_comm r (term_weight t) (weighted_sum r h l)) ∙ sym (plus_assoc r (term_weight u) (weighted_sum r h l) (term_weight t))
  weighted_sum-set (u ∷ l) (suc i) t d below = plus_assoc r (term_weight u) (weighted_sum r h (set l i t)) (term_weight (get_or l i d)) ∙ ap (λ w. term_weight u ⊕ w) (weighted_sum-set l i t d (omega arith)) ∙ sym (plus_assoc r (term_weight u) (weighted_sum r h l) (term_weight t))

  -- two terms that change places
  pub weighted_sum-swap : (l : List Term) (i j : ℕ) → i < length l → j < length l → weighted_sum r h (swap l i j) ≡ weighted_sum r h l
  weighted_sum-swap l i j a b =
      let d = term [] 0 in
      let x = get_or l i d in
      let y = get_or l j d in
      let once = set l i y in
      let length_once = length-set l i y in
      let there : get_or once j d ≡ y = elim (cases_eq j i) [
        | inl same ↦ ap (λ k. get_or once k d) same ∙ get_or-set_same l i y d a
        | inr other ↦ get_or-set_other l i j y d other
      ] in
      ap (weighted_sum r h) (sym (swap_is l i j d a b))
      ∙ plus_cancel_right r (term_weight y) (weighted_sum r h (set once j x)) (weighted_sum r h l) (ap (λ t. weighted_sum r h (set once j x) ⊕ term_weight t) (sym there) ∙ weighted_sum-set once j x d (omega arith) ∙ weighted_sum-set l i y d a)

  -- the terms in another order have the same sum
  pub weighted_sum-permutation : (xs ys : List Term) → IsPermutation xs ys → weighted_sum r h ys ≡ weighted_sum r h xs
  weighted_sum-permutation xs ys permutation = IsPermutation-keeps xs (λ l. weighted_sum r h l ≡ weighted_sum r h xs) refl (λ l i j a b e. weighted_sum-swap l i j a b ∙ e) ys permutation

module _ (p : ℕ) where
  -- the terms in another order
  pub SameSums-permutation : (xs ys : List Term) → IsPermutation xs ys → SameSums p ys xs
  SameSums-permutation xs ys permutation = record { at = λ positive h. weighted_sum-permutation (residues p positive) h xs ys permutation }

  -- equal sums, one list after another
  pub SameSums-append : (f g k l : List Term) → SameSums p f k → SameSums p g l → SameSums p (f ++ g) (k ++ l)
  SameSums-append f g k l a b = record { at = λ positive h. weighted_sum-append (residues p positive) h f g ∙ ap₂ (residues p positive).◌⊕◌ (a.at positive h) (b.at positive h) ∙ sym (weighted_sum-append (residues p positive) h k l) }

  -- two lists in the other order
  pub SameSums-append_comm : (f g : List Term) → SameSums p (f ++ g) (g ++ f)
  SameSums-append_comm f g = record { at = λ positive h. weighted_sum-append_comm (residues p positive) h f g }

  -- the same term before both
  pub SameSums-cons : (t : Term) (f g : List Term) → SameSums p f g → SameSums p (t ∷ f) (t ∷ g)
  SameSums-cons t f g e = record { at = λ positive h. ap ((residues p positive).◌⊕◌ (term_weight (residues p positive) h t)) (e.at positive h) }

  -- a term from the middle to the front
  pub SameSums-to_front : (t : Term) (f g : List Term) → SameSums p (f ++ t ∷ g) (t ∷ f ++ g)
  SameSums-to_front t f g = record { at = λ positive h. weighted_sum-append (residues p positive) h f (t ∷ g) ∙ plus_left_comm (residues p positive) (weighted_sum (residues p positive) h f) (term_weight (residues p positive) h t) (weighted_sum (residues p positive) h g) ∙ ap ((residues p positive).◌⊕◌ (term_weight (residues p positive) h t)) (sym (weighted_sum-append (residues p positive) h f g)) }

  -- a term with the coefficient 0
  pub SameSums-zero : (m : Monomial) (f : List Term) → SameSums p (term m 0 ∷ f) f
  SameSums-zero m f = record { at = λ positive h. ap (λ w. (residues p positive).◌⊕◌ w (weighted_sum (residues p positive) h f)) (nil-times (residues p positive) (h m)) ∙ nil-plus (residues p positive) (weighted_sum (residues p positive) h f) }

  -- a coefficient and its remainder
  pub SameSums-reduced : (m : Monomial) (c : ℕ) (f : List Term) → SameSums p (term m (c % p) ∷ f) (term m c ∷ f)
  SameSums-reduced m c f = record { at = λ positive h. ap (λ w. (residues p positive).◌⊕◌ ((residues p positive).◌⊗◌ w (h m)) (weighted_sum (residues p positive) h f)) (natural_in-mod (residues p positive) p (residues_characteristic p positive) c) }

  -- two terms of one monomial
  pub SameSums-joined : (m : Monomial) (a b : ℕ) (f : List Term) → SameSums p (term m ((a + b) % p) ∷ f) (term m a ∷ term m b ∷ f)
  SameSums-joined m a b f = SameSums-trans p (term m ((a + b) % p) ∷ f) (term m (a + b) ∷ f) (term m a ∷ term m b ∷ f) (SameSums-reduced m (a + b) f) (record {
    at = λ positive h.
        ap (λ w. (residues p positive).◌⊕◌ ((residues p positive).◌⊗◌ w (h m)) (weighted_sum (residues p positive) h f)) (natural_in-add (residues p positive) a b)
        ∙ ap (λ w. (residues p positive).◌⊕◌ w (weighted_sum (residues p positive) h f)) (plus-times (residues p positive) (natural_in (residues p positive) a) (natural_in (residues p positive) b) (h m))
        ∙ plus_assoc (residues p positive) (term_weight (residues p positive) h (term m a)) (term_weight (residues p positive) h (term m b)) (weighted_sum (residues p positive) h f);
  })

  module _ (n : ℕ) (positive : 0 < p) (k : Polynomial) (ik : IsPolynomial p n k) where
    -- a polynomial with the sums of f and g one after the other is their sum
    pub sum_of_from_sums : (f g : Polynomial) → IsPolynomial p n f → IsPolynomial p n g → SameSums p k (f ++ g) → k ≡ sum_of p f g
    sum_of_from_sums f g i j e = same_from_sums p n k (sum_of p f g) ik (IsPolynomial-sum_of p n positive f g i j) (SameSums-trans p k (f ++ g) (sum_of p f g) e (SameSums-sym p (sum_of p f g) (f ++ g) (SameSums-collected p (f ++ g))))

    -- and with those of the products of their terms, their product
    pub product_of_from_sums : (f g : Polynomial) → IsPolynomial p n f → IsPolynomial p n g → SameSums p k (term_products f g) → k ≡ product_of p f g
    product_of_from_sums f g i j e = same_from_sums p n k (product_of p f g) ik (IsPolynomial-product_of p n positive f g i j) (SameSums-trans p k (term_products f g) (product_of p f g) e (SameSums-sym p (product_of p f g) (term_products f g) (SameSums-collected p (term_products f g))))

-- a constant times f is the multiple of f
pub SameSums-constant_product : (p n c : ℕ) (f : Polynomial) → IsPolynomial p n f → SameSums p (scaled p c f) (map (term_product (term (replicate n 0) c)) f)
SameSums-constant_product p n c f i = record { at = λ positive h. scaled_sum positive h ∙ sym (weighted_sum-map (residues p positive) h (term (replicate n 0) c) f ∙ ap ((residues p positive).◌⊗◌ (natural_in (residues p positive) c)) (weighted_sum-each (residues p positive) (λ m. h (monomial_product (replicate n 0) m)) h f (EachMonomial-implied (λ m. length m ≡ n) (λ m. h (monomial_product (replicate n 0) m) ≡ h m) (λ m e. ap h (replicate-monomial_product n m e)) f (HaveLength-from_IsPolynomial p n f i)))) }
  where
    scaled_sum : (positive : 0 < p) (h : Monomial → Residue p) → weighted_sum (residues p positive) h (scaled p c f) ≡ (residues p positive).◌⊗◌ (natural_in (residues p positive) c) (weighted_sum (residues p positive) h f)
    scaled_sum positive h = weighted_sum-scaled (residues p positive) p (residues_characteristic p positive) h c f
