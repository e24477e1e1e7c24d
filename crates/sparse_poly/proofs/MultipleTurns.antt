-- The multiples of two polynomials by terms, merged as they are made.
use Rattle.std.proofs.Common.{◌≡◌, ◌≢◌, ◌⊎◌, ◌<◌, ◌≤◌, ◌+◌, ◌*◌, ◌%◌, ℕ, zero, suc, List, [], ◌∷◌, ◌++◌, map, length, get_or, drop, ap, ap₂, sym, ◌∙◌, subst, inl, inr, arith}
use Rattle.std.proofs.lemmas.List.{length-map, drop-map}
use Rattle.std.specs.declared.cmp.Ordering.TheVariants.{Less, Equal, Greater}
use Rattle.polynomials.specs.Primes.{IsPrime}
use Rattle.polynomials.specs.Monomials.{Monomial, monomial_product, monomial_order}
use Rattle.polynomials.specs.Polynomials.{Term, term, IsPolynomial, sum_of, product_of}
use Rattle.sparse_poly.specs.declared.merge.Sign.TheVariants.{Plus}
use Rattle.sparse_poly.proofs.Moduli.{positive_modulus}
use Rattle.sparse_poly.proofs.Places.{IsPolynomial-drop}
use Rattle.sparse_poly.proofs.MergeTurns.{turn_greater, turn_less, turn_equal, turn_equal_zero, end_of_merge}
use Rattle.sparse_poly.proofs.Products.{reduced_product, IsPolynomial-times, product_of-term}

-- the term of a multiple at a place, from that of the polynomial
multiple_item : (p : ℕ) (t : Term) (a : List Term) (i : ℕ) (x : Term) → i < length a → x ≡ get_or a i x → (y : Term) → reduced_product p t x ≡ get_or (map (reduced_product p t) a) i y
multiple_item p t [] i x below at y = absurd (omega arith)
multiple_item p t (v ∷ a) zero x below at y = ap (reduced_product p t) at
multiple_item p t (v ∷ a) (suc i) x below at y = multiple_item p t a i x (omega arith) at y

-- two items are the list
pub two_items : (f : List Term) (x y : Term) → length f ≡ 2 → x ≡ get_or f 0 x → y ≡ get_or f 1 y → f ≡ x ∷ y ∷ []
two_items [] x y count first second = absurd (omega arith)
two_items (t ∷ []) x y count first second = absurd (omega arith)
two_items (t ∷ u ∷ []) x y count first second = ap₂ (λ a b. a ∷ b ∷ []) (sym first) (sym second)
two_items (t ∷ u ∷ v ∷ f) x y count first second = absurd (omega arith)

module _ (p n : ℕ) (prime : IsPrime p) (t : Term) (a : List Term) (u : Term) (b : List Term) (first : IsPolynomial p n (t ∷ [])) (second : IsPolynomial p n (u ∷ [])) (over_a : IsPolynomial p n a) (over_b : IsPolynomial p n b) (out : List Term) (i j : ℕ) where
  abbrev upper : List Term
  upper = map (reduced_product p t) a

  abbrev lower : List Term
  lower = map (reduced_product p u) b

  positive : 0 < p
  positive = positive_modulus prime.many

  upper_canonical : IsPolynomial p n upper
  upper_canonical = IsPolynomial-times p n prime t a first.0 first.1 first.2 over_a

  lower_canonical : IsPolynomial p n lower
  lower_canonical = IsPolynomial-times p n prime u b second.0 second.1 second.2 over_b

  module _ (x y : Term) (l r : Monomial) (la : i < length a) (lb : j < length b) (xa : x ≡ get_or a i x) (yb : y ≡ get_or b j y) (is_l : l ≡ monomial_product t.0 x.0) (is_r : r ≡ monomial_product u.0 y.0) where
    abbrev X : Term
    X = term l (t.1 * x.1 % p)

    abbrev Y : Term
    Y = term r (u.1 * y.1 % p)

    place_x : i < length upper
    place_x = let same = length-map a (reduced_product p t) in omega arith

    place_y : j < length lower
    place_y = let same = length-map b (reduced_product p u) in omega arith

    item_x : X ≡ get_or upper i X
    item_x = ap (λ m. term m (t.1 * x.1 % p)) is_l ∙ multiple_item p t a i x la xa X

    item_y : Y ≡ get_or lower j Y
    item_y = ap (λ m. term m (u.1 * y.1 % p)) is_r ∙ multiple_item p u b j y lb yb Y

    -- the greater term of the first
    pub multiple_greater : (c : ℕ) → c ≡ t.1 * x.1 % p → monomial_order l r ≡ Greater → (all : List Term) → out ++ sum_of p (drop i upper) (drop j lower) ≡ all → (out ++ term l c ∷ []) ++ sum_of p (drop (i + 1) upper) (drop j lower) ≡ all
    multiple_greater c is order all h =
        subst (λ k. (out ++ term l k ∷ []) ++ sum_of p (drop (i + 1) upper) (drop j lower) ≡ all) (sym is)
        (turn_greater p n positive Plus out upper lower all i j X Y upper_canonical lower_canonical place_x place_y item_x item_y order h)

    -- of the second
    pub multiple_less : (c : ℕ) → c ≡ u.1 * y.1 % p → monomial_order l r ≡ Less → (all : List Term) → out ++ sum_of p (drop i upper) (drop j lower) ≡ all → (out ++ term r c ∷ []) ++ sum_of p (drop i upper) (drop (j + 1) lower) ≡ all
    multiple_less c is order all h =
        subst (λ k. (out ++ term r k ∷ []) ++ sum_of p (drop i upper) (drop (j + 1) lower) ≡ all) (sym is)
        (turn_less p n positive Plus out upper lower all i j X Y upper_canonical lower_canonical place_x place_y item_x item_y order h)

    -- both, where they add to 0
    pub multiples_equal_zero : (t.1 * x.1 % p + u.1 * y.1 % p) % p ≡ 0 → monomial_order l r ≡ Equal → (all : List Term) → out ++ sum_of p (drop i upper) (drop j lower) ≡ all → out ++ sum_of p (drop (i + 1) upper) (drop (j + 1) lower) ≡ all
    multiples_equal_zero none order all h = turn_equal_zero p n positive Plus out upper lower all i j X Y upper_canonical lower_canonical place_x place_y item_x item_y order none h

    -- and where they don't
    pub multiples_equal : (c : ℕ) → c ≡ (t.1 * x.1 % p + u.1 * y.1 % p) % p → c ≢ 0 → monomial_order l r ≡ Equal → (all : List Term) → out ++ sum_of p (drop i upper) (drop j lower) ≡ all → (out ++ term l c ∷ []) ++ sum_of p (drop (i + 1) upper) (drop (j + 1) lower) ≡ all
    multiples_equal c is some order all h = turn_equal p n positive Plus out upper lower all i j X Y upper_canonical lower_canonical place_x place_y item_x item_y c order is some h

  -- where nothing is left of one of them, the rest of both is appended
  pub multiples_end : (length a ≤ i) ⊎ (length b ≤ j) → out ++ sum_of p (drop i upper) (drop j lower) ≡ sum_of p upper lower
      → (out ++ product_of p (t ∷ []) (drop i a)) ++ product_of p (u ∷ []) (drop j b) ≡ sum_of p (product_of p (t ∷ []) a) (product_of p (u ∷ []) b)
  multiples_end ended h =
      ap₂ (λ c d. (out ++ c) ++ d) (rest t a first over_a i) (rest u b second over_b j)
      ∙ (end_of_merge p n positive Plus out upper lower (sum_of p upper lower) i j upper_canonical lower_canonical (places ended) h
      ∙ ap₂ (sum_of p) (sym (product_of-term p n prime t a first over_a)) (sym (product_of-term p n prime u b second over_b)))
    where
      rest : (s : Term) (c : List Term) → IsPolynomial p n (s ∷ []) → IsPolynomial p n c → (k : ℕ) → product_of p (s ∷ []) (drop k c) ≡ drop k (map (reduced_product p s) c)
      rest s c is over k = product_of-term p n prime s (drop k c) is (IsPolynomial-drop p n k c over) ∙ sym (drop-map (reduced_product p s) k c)

      places : (length a ≤ i) ⊎ (length b ≤ j) → (length upper ≤ i) ⊎ (length lower ≤ j)
      places (inl past) = inl (let same = length-map a (reduced_product p t) in omega arith)
      places (inr past) = inr (let same = length-map b (reduced_product p u) in omega arith)
