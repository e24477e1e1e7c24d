-- Turns of the loops over a box.
use Rattle.std.proofs.Common.{◌≡◌, ℕ, zero, suc, Some, ◌+◌, ◌*◌, ◌%◌, ◌<◌, ◌≤◌, List, [], ◌∷◌, ◌++◌, length, get_or, set, drop, map, sym, ap, ap₂, ◌∙◌, inl, inr, subst, append_assoc, arith}
use Rattle.std.proofs.Math.Seq.{drop-cons, get_or-append_seam}
use Rattle.std.proofs.lemmas.Bool.{cases_lt}
use Rattle.std.proofs.lemmas.Nat.{mul-le}
use Rattle.std.proofs.lemmas.List.{get_or_append_left, get_or_default, get_or_past}
use Rattle.polynomials.specs.Monomials.{Monomial, exponent_of, monomial_product, greatest_variable}
use Rattle.polynomials.specs.MonomialOrders.{length-monomial_product}
use Rattle.polynomials.specs.Polynomials.{Term, term, term_product, term_products, with_first}
use Rattle.polynomials.specs.Views.{degree_in}
use Rattle.polynomials.proofs.Exponents.{exponent_of-product}
use Rattle.polynomials.proofs.MainVariables.{IsGreatest, greatest_variable_is}
use Rattle.polynomials.proofs.SamePolynomials.{SameSums, SameSums-trans, SameSums-refl, SameSums-from_path}
use Rattle.polynomials.proofs.SameSumsLemmas.{SameSums-append}
use Rattle.sparse_poly.specs.Boxes.{box_size, IsInside, place_of, from_slots}
use Rattle.sparse_poly.proofs.Places.{drop_item}
use Rattle.sparse_poly.proofs.BoxPlaces.{IsAt, place_of-product, place_within, times_sum}
use Rattle.sparse_poly.proofs.Slots.{added_to_slot}

-- one side more
pub box_size-push : (sides : List ℕ) (side : ℕ) → box_size (sides ++ side ∷ []) ≡ box_size sides * side
box_size-push [] side = omega arith
box_size-push (s ∷ sides) side = ap (λ x. s * x) (box_size-push sides side) ∙ times_assoc s (box_size sides) side
  where
    times_assoc : (a b c : ℕ) → a * (b * c) ≡ a * b * c
    times_assoc zero b c = omega arith
    times_assoc (suc a) b c = omega (arith, times_assoc a b c, times_sum c b (a * b))

-- from one of its variables on
IsInside-drop : (j : ℕ) (sides : List ℕ) (m : Monomial) → IsInside sides m → IsInside (drop j sides) (drop j m)
IsInside-drop zero sides m inside = inside
IsInside-drop (suc j) [] [] inside = inside
IsInside-drop (suc j) [] (e ∷ m) inside = IsInside-drop_nil j m (λ v. inside (suc v))
  where
    IsInside-drop_nil : (j : ℕ) (m : Monomial) → IsInside [] m → IsInside [] (drop j m)
    IsInside-drop_nil zero m inside = inside
    IsInside-drop_nil (suc j) [] inside = inside
    IsInside-drop_nil (suc j) (e ∷ m) inside = IsInside-drop_nil j m (λ v. inside (suc v))
IsInside-drop (suc j) (s ∷ sides) [] inside = IsInside-drop_none j sides (λ v. inside (suc v))
  where
    IsInside-drop_none : (j : ℕ) (sides : List ℕ) → IsInside sides [] → IsInside (drop j sides) []
    IsInside-drop_none zero sides inside = inside
    IsInside-drop_none (suc j) [] inside = inside
    IsInside-drop_none (suc j) (s ∷ sides) inside = IsInside-drop_none j sides (λ v. inside (suc v))
IsInside-drop (suc j) (s ∷ sides) (e ∷ m) inside = IsInside-drop j sides m (λ v. inside (suc v))

box_size-drop : (j : ℕ) (sides : List ℕ) → ((v : ℕ) → 0 < get_or sides v 1) → box_size (drop j sides) ≤ box_size sides
box_size-drop zero sides positive = omega arith
box_size-drop (suc j) [] positive = omega arith
box_size-drop (suc j) (s ∷ sides) positive =
    let some : 0 < s = positive 0 in
    omega (arith, box_size-drop j sides (λ v. positive (suc v)), mul-le 1 (box_size sides) s (box_size sides) (omega arith) (omega arith))

-- no place on the way passes the size
pub place_room : (j : ℕ) (sides : List ℕ) (m : Monomial) → IsInside sides m → place_of (drop j sides) (drop j m) < box_size sides
place_room j sides m inside =
    omega (arith, place_within (drop j sides) (drop j m) (IsInside-drop j sides m inside), box_size-drop j sides (λ v. let below = inside v in omega arith))

-- one variable lower
pub place_step : (j : ℕ) (sides : List ℕ) (m : Monomial) (side place : ℕ) → j < length sides → j < length m → side ≡ get_or sides j side → place ≡ place_of (drop (suc j) sides) (drop (suc j) m) → place * side + exponent_of j m ≡ place_of (drop j sides) (drop j m)
place_step j sides m side place in_sides in_m at upper =
    let turned : place * side ≡ side * place = commute place side in
    omega (arith, turned) ∙ ap (λ x. exponent_of j m + side * x) upper
    ∙ ap (λ s. exponent_of j m + s * place_of (drop (suc j) sides) (drop (suc j) m)) at
    ∙ sym (ap₂ place_of (drop-cons sides j side in_sides) (drop-cons m j 0 in_m))
  where
    commute : (a b : ℕ) → a * b ≡ b * a
    commute zero b = omega arith
    commute (suc a) b = omega (arith, commute a b, times_sum b a 1)

-- and so with the variable counted down
pub place_turn : (v j : ℕ) (sides : List ℕ) (m : Monomial) (place : ℕ) → v ≡ suc j → j < length sides → j < length m → place ≡ place_of (drop v sides) (drop v m) → place * get_or sides j 0 + exponent_of j m ≡ place_of (drop j sides) (drop j m)
place_turn v j sides m place next in_sides in_m upper =
    place_step j sides m (get_or sides j 0) place in_sides in_m
    (get_or_default sides j 0 (get_or sides j 0) in_sides) (upper ∙ ap (λ x. place_of (drop x sides) (drop x m)) next)

-- the greatest variable of n, and those above it
pub greatest_bounds : (n v : ℕ) (m : Monomial) → length m ≡ n → greatest_variable m ≡ Some v → (v < n) × ((w : ℕ) → v + 1 ≤ w → exponent_of w m ≡ 0)
greatest_bounds n v m count is =
    let greatest : IsGreatest (Some v) (λ w. exponent_of w m) = subst (λ o. IsGreatest o (λ w. exponent_of w m)) is (greatest_variable_is m) in (
      elim (cases_lt v n) [
        | inl below ↦ below
        | inr past ↦ let none = get_or_past m v 0 (omega arith) in let some = greatest.0 in absurd (omega arith)
      ],
      λ w above. greatest.1 w (omega arith),
    )

-- the degree bounds the exponents
pub exponent_at_most : (v k : ℕ) (f : List Term) (t : Term) → k < length f → t ≡ get_or f k t → exponent_of v t.0 ≤ degree_in v f
exponent_at_most v k [] t below at = absurd (omega arith)
exponent_at_most v zero (u ∷ f) t below at = let same : exponent_of v t.0 ≡ exponent_of v u.0 = ap (λ (x : Term). exponent_of v x.0) at in omega arith
exponent_at_most v (suc k) (u ∷ f) t below at = let later = exponent_at_most v k f t (omega arith) at in omega arith

-- a product of monomials is at the sum of their places
pub product_at : (n : ℕ) (sides : List ℕ) (l m : Monomial) → length l ≡ n → length m ≡ n → ((v : ℕ) → exponent_of v l + exponent_of v m < get_or sides v 1) → IsAt n sides (place_of sides l + place_of sides m) (monomial_product l m)
product_at n sides l m first second inside = record {
  variables = length-monomial_product n l m first second;
  inside = λ v. rw (exponent_of-product v l m) (inside v);
  place = place_of-product sides l m;
}

-- and that place is in the box
pub product_within : (n : ℕ) (sides : List ℕ) (k : ℕ) (m : Monomial) → IsAt n sides k m → k < box_size sides
product_within n sides k m is = let place = is.place in omega (arith, place_within sides m is.inside)

-- a term that was added is no longer to come
pub sums_turn : (p k j : ℕ) (t u slot : Term) (slots long whole : List Term) → k < length slots → slot ≡ get_or slots k slot → j < length long → u ≡ get_or long j u → (0 < slot.1 → slot.0 ≡ monomial_product t.0 u.0) → SameSums p (slots ++ map (term_product t) (drop j long)) whole → SameSums p (set slots k (term (monomial_product t.0 u.0) (slot.1 + t.1 * u.1)) ++ map (term_product t) (drop (j + 1) long)) whole
sums_turn p k j t u slot slots long whole below at inside item same sums =
    SameSums-trans p _ (slots ++ map (term_product t) (drop j long)) whole
    (SameSums-trans p _ ((slots ++ term_product t u ∷ []) ++ map (term_product t) (drop (j + 1) long)) (slots ++ map (term_product t) (drop j long))
    (SameSums-append p _ (map (term_product t) (drop (j + 1) long)) (slots ++ term_product t u ∷ []) (map (term_product t) (drop (j + 1) long))
    (added_to_slot p k (t.1 * u.1) slots slot (monomial_product t.0 u.0) below at same)
    (SameSums-refl p (map (term_product t) (drop (j + 1) long))))
    (SameSums-from_path p _ _ (append_assoc slots (term_product t u ∷ []) (map (term_product t) (drop (j + 1) long))
    ∙ ap (λ (l : List Term). slots ++ map (term_product t) l) (sym (drop_item long j u inside item)))))
    sums

-- products of one term of the first factor that were added are no longer to come
pub rows_turn : (p i : ℕ) (t : Term) (slots later short long whole : List Term) → i < length short → t ≡ get_or short i t → SameSums p later (slots ++ map (term_product t) long) → SameSums p (slots ++ term_products (drop i short) long) whole → SameSums p (later ++ term_products (drop (i + 1) short) long) whole
rows_turn p i t slots later short long whole below at added sums =
    SameSums-trans p _ (slots ++ term_products (drop i short) long) whole
    (SameSums-trans p _ ((slots ++ map (term_product t) long) ++ term_products (drop (i + 1) short) long) (slots ++ term_products (drop i short) long)
    (SameSums-append p later (term_products (drop (i + 1) short) long) (slots ++ map (term_product t) long) (term_products (drop (i + 1) short) long) added
    (SameSums-refl p (term_products (drop (i + 1) short) long)))
    (SameSums-from_path p _ _ (append_assoc slots (map (term_product t) long) (term_products (drop (i + 1) short) long)
    ∙ ap (λ (l : List Term). slots ++ term_products l long) (sym (drop_item short i t below at)))))
    sums

-- a slot more that is emptied
pub from_slots_turn : (p j : ℕ) (slot : Term) (out slots : List Term) → j < length slots → slot ≡ get_or slots j slot → out ≡ from_slots p (drop (j + 1) slots) → out ++ with_first (term slot.0 (slot.1 % p)) [] ≡ from_slots p (drop j slots)
from_slots_turn p j slot out slots below at made =
    ap (λ (l : List Term). l ++ with_first (term slot.0 (slot.1 % p)) []) made ∙ sym (ap (from_slots p) (drop_item slots j slot below at))

-- a monomial without exponents from n on, inside the box of the first n variables
pub inside_below : (sides : List ℕ) (n : ℕ) (d : ℕ → ℕ) → length sides ≡ n → ((w : ℕ) → w < n → d w < get_or sides w 1) → ((w : ℕ) → n ≤ w → d w ≡ 0) → (w : ℕ) → d w < get_or sides w 1
inside_below sides n d count inside free w = elim (cases_lt w n) [
  | inl below ↦ inside w below
  | inr above ↦ let none = free w above in omega (arith, get_or_past sides w 1 (omega arith))
]

-- one variable more
pub inside_push : (sides : List ℕ) (n side : ℕ) (d : ℕ → ℕ) → length sides ≡ n → d n < side → ((w : ℕ) → w < n → d w < get_or sides w 1) → (w : ℕ) → w < n + 1 → d w < get_or (sides ++ side ∷ []) w 1
inside_push sides n side d count small inside w below = elim (cases_lt w n) [
  | inl less ↦ let before = inside w less in omega (arith, get_or_append_left sides (side ∷ []) 1 w (omega arith))
  | inr most ↦
      let last : w ≡ length sides = omega arith in
      let seam : get_or (sides ++ side ∷ []) w 1 ≡ side = ap (λ k. get_or (sides ++ side ∷ []) k 1) last ∙ get_or-append_seam sides side [] 1 in
      let same : d w ≡ d n = ap d (omega arith) in
      omega arith
]

-- no side passes the bound
pub narrow_push : (sides : List ℕ) (side most : ℕ) → 1 ≤ most → side ≤ most → ((w : ℕ) → get_or sides w 1 ≤ most) → (w : ℕ) → get_or (sides ++ side ∷ []) w 1 ≤ most
narrow_push [] side most one small narrow zero = small
narrow_push [] side most one small narrow (suc w) = one
narrow_push (s ∷ sides) side most one small narrow zero = narrow 0
narrow_push (s ∷ sides) side most one small narrow (suc w) = narrow_push sides side most one small (λ u. narrow (suc u)) w
