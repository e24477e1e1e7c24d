-- The parts of a list, joined in another order.
use Rattle.std.proofs.Common.{◌≡◌, ◌≢◌, ◌⊎◌, ℕ, ◌+◌, ◌-◌, ◌<◌, ◌≤◌, take, drop, append_assoc, List, [], ◌∷◌, ◌++◌, length, set, get_or, swap, flat_map, IsPermutation, refl, sym, ap, ◌∙◌, inl, inr, arith}
use Rattle.std.proofs.lemmas.Bool.{cases_eq, cases_lt}
use Rattle.std.proofs.lemmas.List.{get_or-drop, set-get_or, take-append-drop, drop_more, length-take-le, length-drop, length-append, set_at, set_comm}
use Rattle.std.proofs.lemmas.List.Concat.{flat_map-append}
use Rattle.std.proofs.lemmas.List.Edits.{swap_is}
use Rattle.std.proofs.lemmas.List.Sorted.{IsPermutation-refl, IsPermutation-trans, IsPermutation-keeps, IsPermutation-append_left, IsPermutation-append_right, IsPermutation-append_comm}

-- three parts with the first and the last in each other's place
three_parts : {B : Type 0} (p q r t : List B) → IsPermutation (p ++ (q ++ (r ++ t))) (r ++ (q ++ (p ++ t)))
three_parts p q r t =
    let one : IsPermutation (p ++ (q ++ r)) ((q ++ r) ++ p) = IsPermutation-append_comm p (q ++ r) in
    let two : IsPermutation ((q ++ r) ++ p) ((r ++ q) ++ p) = IsPermutation-append_left p _ _ (IsPermutation-append_comm q r) in
    let both = IsPermutation-append_left t _ _ (IsPermutation-trans _ _ _ one two) in
    rw (append_assoc p (q ++ r) t, append_assoc q r t) at (rw (append_assoc (r ++ q) p t, append_assoc r q (p ++ t)) at both)

module _ {X B : Type 0} (f : X → List B) where
  -- two items in each other's place
  swapped_less : (l : List X) (i j : ℕ) (d : X) → i < j → j < length l → IsPermutation (flat_map f l) (flat_map f (swap l i j))
  swapped_less l i j d a b =
      let x = get_or l i d in
      let y = get_or l j d in
      let front = take i l in
      let r = drop (i + 1) l in
      let long_front : length front ≡ i = length-take-le i l (omega (arith, a, b)) in
      let whole : l ≡ front ++ x ∷ r = sym (rw (sym (drop_more l i d (omega (arith, a, b)))) (take-append-drop i l)) in
      let long_r : length r ≡ length l - (i + 1) = length-drop (i + 1) l in
      let m = take (j - i - 1) r in
      let back = drop (j - i) r in
      let in_r : j - i - 1 < length r = omega (arith, a, b, long_r) in
      let jj : i + 1 + (j - i - 1) ≡ j = omega (arith, a) in
      let at_j : get_or r (j - i - 1) d ≡ y = rw (get_or-drop (i + 1) l (j - i - 1) d, jj) refl in
      let long_m : length m ≡ j - i - 1 = length-take-le (j - i - 1) r (omega (arith, in_r)) in
      let past : j - i - 1 + 1 ≡ j - i = omega (arith, a) in
      let r_is : r ≡ m ++ y ∷ back = sym (rw (drop_more r (j - i - 1) d in_r, at_j, past) at (take-append-drop (j - i - 1) r)) in
      let once : set l i y ≡ (front ++ y ∷ m) ++ y ∷ back = ap (λ v. set v i y) whole ∙ set_at front x r y i long_front ∙ ap (λ v. front ++ y ∷ v) r_is ∙ sym (append_assoc front (y ∷ m) (y ∷ back)) in
      let long_y : length (front ++ y ∷ m) ≡ j = omega (arith, length-append front (y ∷ m), long_front, long_m, a) in
      let twice : set (set l i y) j x ≡ (front ++ y ∷ m) ++ x ∷ back = ap (λ v. set v j x) once ∙ set_at (front ++ y ∷ m) y back x j long_y in
      let swapped : swap l i j ≡ (front ++ y ∷ m) ++ x ∷ back = sym (swap_is l i j d (omega (arith, a, b)) b) ∙ twice in
      let flat : flat_map f l ≡ flat_map f front ++ (f x ++ (flat_map f m ++ (f y ++ flat_map f back))) = ap (flat_map f) (whole ∙ ap (λ v. front ++ x ∷ v) r_is) ∙ flat_map-append f front (x ∷ m ++ y ∷ back) ∙ ap (λ v. flat_map f front ++ (f x ++ v)) (flat_map-append f m (y ∷ back)) in
      let flat_swapped : flat_map f (swap l i j) ≡ flat_map f front ++ (f y ++ (flat_map f m ++ (f x ++ flat_map f back))) = ap (flat_map f) swapped ∙ flat_map-append f (front ++ y ∷ m) (x ∷ back) ∙ ap (λ v. v ++ (f x ++ flat_map f back)) (flat_map-append f front (y ∷ m)) ∙ append_assoc (flat_map f front) (f y ++ flat_map f m) (f x ++ flat_map f back) ∙ ap (λ v. flat_map f front ++ v) (append_assoc (f y) (flat_map f m) (f x ++ flat_map f back)) in
      rw (flat, flat_swapped) (IsPermutation-append_right (flat_map f front) _ _ (three_parts (f x) (flat_map f m) (f y) (flat_map f back)))

  swapped_items : (l : List X) (i j : ℕ) → i < length l → j < length l → IsPermutation (flat_map f l) (flat_map f (swap l i j))
  swapped_items [] i j a b = absurd (omega (arith, a))
  swapped_items (d ∷ ls) i j a b = by_order (cases_lt i j) (cases_eq i j)
    where
      by_order : (i < j) ⊎ (j ≤ i) → (i ≡ j) ⊎ (i ≢ j) → IsPermutation (flat_map f (d ∷ ls)) (flat_map f (swap (d ∷ ls) i j))
      by_order (inl less) c = swapped_less (d ∷ ls) i j d less b
      by_order (inr most) (inl same) =
          let still : swap (d ∷ ls) i j ≡ d ∷ ls = rw same (sym (swap_is (d ∷ ls) j j d b b) ∙ rw (set-get_or (d ∷ ls) j d) (set-get_or (d ∷ ls) j d)) in
          rw still (IsPermutation-refl _)
      by_order (inr most) (inr other) =
          let less : j < i = omega (arith, most, other) in
          let turned : swap (d ∷ ls) j i ≡ swap (d ∷ ls) i j = sym (swap_is (d ∷ ls) j i d b a) ∙ set_comm (d ∷ ls) j i _ _ (λ z. absurd (omega (arith, z, less))) ∙ swap_is (d ∷ ls) i j d a b in
          rw (sym turned) (swapped_less (d ∷ ls) j i d less a)

  pub flat_permutation : (xs ys : List X) → IsPermutation xs ys → IsPermutation (flat_map f xs) (flat_map f ys)
  flat_permutation xs ys permuted = IsPermutation-keeps xs (λ l. IsPermutation (flat_map f xs) (flat_map f l)) (IsPermutation-refl _) (λ l i j a b h. IsPermutation-trans _ _ _ h (swapped_items l i j a b)) ys permuted
