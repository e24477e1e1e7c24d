-- A product of two terms that is added to the sum at its place.
use Rattle.std.proofs.Common.{◌≡◌, ℕ, ◌+◌, ◌*◌, ◌^◌, ◌<◌, ◌≤◌, List, [], ◌++◌, length, get_or, set, drop, map, sym, ap, ap₂, ◌∙◌, subst, append-nil, arith}
use Rattle.std.proofs.Math.Nat.{mul_assoc, mul_comm}
use Rattle.std.proofs.Math.ListN.{drop_of_length-le}
use Rattle.std.proofs.lemmas.Nat.{mul-le, mul-add-lt}
use Rattle.std.proofs.lemmas.List.{get_or-map, get_or_default, length-set}
use Rattle.std.proofs.lemmas.List.Elements.{All-set, All-weaker}
use Rattle.polynomials.specs.Monomials.{Monomial, exponent_of, monomial_product}
use Rattle.polynomials.specs.Polynomials.{Term, term, term_product}
use Rattle.polynomials.proofs.SamePolynomials.{SameSums, SameSums-refl}
use Rattle.sparse_poly.specs.Boxes.{IsInside, place_of, placed, monomial_of_place, boxed, AreSums, IsBoxOf}
use Rattle.sparse_poly.proofs.Places.{IsPolynomial-item}
use Rattle.sparse_poly.proofs.BoxPlaces.{IsAt, times_sum}
use Rattle.sparse_poly.proofs.BoxTurns.{exponent_at_most, product_at, product_within, sums_turn}
use Rattle.sparse_poly.proofs.BoxMonomials.{HavePlaces, at_is, length-boxed, get_or-boxed, boxed-set}

-- the products by the first j terms of long are in their sums, and the others are to come
pub record AreAdded (p n : ℕ) (sides : List ℕ) (long : List Term) (i : ℕ) (t : Term) (whole : List Term) (j : ℕ) (held : List ℕ) : Type 0 where
  pub sums : AreSums sides (i * (length long * 2 ^ 32) + j * 2 ^ 32) held
  pub same : SameSums p (boxed n sides 0 held ++ map (term_product t) (drop j long)) whole

-- a further product has room in 64 bits
row_room : (i j s l : ℕ) → i < s → j < l → s * l < 2 ^ 32 → i * (l * 2 ^ 32) + j * 2 ^ 32 + 2 ^ 32 < 2 ^ 64
row_room i j s l row column few =
    let place = mul-add-lt i l j s row column in
    let turned = mul_comm s l in
    let moved = mul_assoc i l (2 ^ 32) in
    omega arith

-- before the first product
pub added_start : (p n : ℕ) (sides : List ℕ) (long : List Term) (i : ℕ) (t : Term) (sums : List ℕ) → AreSums sides (i * (length long * 2 ^ 32)) sums → AreAdded p n sides long i t (boxed n sides 0 sums ++ map (term_product t) long) 0 sums
added_start p n sides long i t sums are = record {
  sums = subst (λ b. AreSums sides b sums) (omega arith) are;
  same = SameSums-refl p (boxed n sides 0 sums ++ map (term_product t) long);
}

-- after the last one
pub added_bounds : (p n : ℕ) (sides : List ℕ) (long : List Term) (i : ℕ) (t : Term) (whole : List Term) (j : ℕ) (sums : List ℕ) → j ≡ length long → AreAdded p n sides long i t whole j sums → AreSums sides ((i + 1) * (length long * 2 ^ 32)) sums
added_bounds p n sides long i t whole j sums end added =
    subst (λ b. AreSums sides b sums) (ap (λ k. i * (length long * 2 ^ 32) + k * 2 ^ 32) end ∙ next i (length long * 2 ^ 32)) added.sums
  where
    next : (i l : ℕ) → i * l + l ≡ (i + 1) * l
    next i l = omega (arith, mul_comm (i + 1) l, times_sum l i 1, mul_comm l i)

pub added_sums : (p n : ℕ) (sides : List ℕ) (long : List Term) (i : ℕ) (t : Term) (whole : List Term) (j : ℕ) (sums : List ℕ) → j ≡ length long → AreAdded p n sides long i t whole j sums → SameSums p (boxed n sides 0 sums) whole
added_sums p n sides long i t whole j sums end added =
    subst (λ (l : List Term). SameSums p l whole)
    (ap (λ (l : List Term). boxed n sides 0 sums ++ map (term_product t) l) (drop_of_length-le long (omega arith)) ∙ append-nil (boxed n sides 0 sums))
    added.same

-- each side of a box of two factors has a place
pub box_places : (p n : ℕ) (sides : List ℕ) (short long : List Term) → IsBoxOf p n sides short long → HavePlaces sides
box_places p n sides short long box v = let inside = box.inside v in omega arith

module _ (p n : ℕ) (small : p ≤ 65537) (sides : List ℕ) (short long : List Term) (box : IsBoxOf p n sides short long) (i : ℕ) (row : i < length short) (t : Term) (at : t ≡ get_or short i t) (start : ℕ) (begins : start ≡ place_of sides t.0) (places : List (ℕ × ℕ)) (are_places : places ≡ map (placed sides) long) where
  abbrev item : ℕ → Term
  item j = get_or long j (term [] 0)

  abbrev place : ℕ → ℕ
  place j = start + (get_or places j (0, 0)).0

  item_at : (j : ℕ) → j < length long → item j ≡ get_or long j (item j)
  item_at j column = get_or_default long j (term [] 0) (item j) column

  place_is : (j : ℕ) → j < length long → get_or places j (0, 0) ≡ placed sides (item j)
  place_is j column = ap (λ (l : List (ℕ × ℕ)). get_or l j (0, 0)) are_places ∙ get_or-map (placed sides) long j (term [] 0) (0, 0) column

  -- the monomial of t
  pub term_inside : IsInside sides t.0
  term_inside v =
      let first = exponent_at_most v i short t row at in
      let inside = box.inside v in
      omega arith

  -- the product is at that place of the box
  product_there : (j : ℕ) → j < length long → IsAt n sides (place j) (monomial_product t.0 (item j).0)
  product_there j column =
      subst (λ k. IsAt n sides k (monomial_product t.0 (item j).0))
      (ap₂ ◌+◌ (sym begins) (sym (ap (λ (q : ℕ × ℕ). q.0) (place_is j column))))
      (product_at n sides t.0 (item j).0
      (IsPolynomial-item p n i short t box.left row at).0
      (IsPolynomial-item p n j long (item j) box.right column (item_at j column)).0
      inside)
    where
      inside : (v : ℕ) → exponent_of v t.0 + exponent_of v (item j).0 < get_or sides v 1
      inside v =
          let first = exponent_at_most v i short t row at in
          let second = exponent_at_most v j long (item j) column (item_at j column) in
          let both = box.inside v in
          omega arith

  -- the product of the coefficients
  coefficient_small : (j : ℕ) → j < length long → t.1 * (get_or places j (0, 0)).1 ≤ 2 ^ 32
  coefficient_small j column =
      let first = (IsPolynomial-item p n i short t box.left row at).2 in
      let second = (IsPolynomial-item p n j long (item j) box.right column (item_at j column)).2 in
      let same = ap (λ (q : ℕ × ℕ). q.1) (place_is j column) in
      omega (arith, mul-le t.1 (get_or places j (0, 0)).1 65536 65536 (omega arith) (omega arith))

  module _ (whole : List Term) (j : ℕ) (sums : List ℕ) (column : j < length long) (added : AreAdded p n sides long i t whole j sums) where
    -- the place has a sum
    pub place_in_sums : place j < length sums
    place_in_sums =
        let within = product_within n sides (place j) (monomial_product t.0 (item j).0) (product_there j column) in
        let count = added.sums.count in
        omega arith

    -- which has room for the product
    pub sum_room : get_or sums (place j) 0 + t.1 * (get_or places j (0, 0)).1 < 2 ^ 64
    sum_room =
        let most = added.sums.bound (place j) 0 place_in_sums in
        omega (arith, coefficient_small j column, row_room i j (length short) (length long) row column box.pairs)

    abbrev new_sum : ℕ
    new_sum = get_or sums (place j) 0 + t.1 * (get_or places j (0, 0)).1

    -- the monomial of the place is that of the product
    same_monomial : monomial_of_place n sides (place j) ≡ monomial_product t.0 (item j).0
    same_monomial = sym (at_is n sides box.variables (box_places p n sides short long box) (place j) (monomial_product t.0 (item j).0) (product_there j column))

    abbrev slot : Term
    slot = term (monomial_of_place n sides (place j)) (get_or sums (place j) 0)

    slot_at : slot ≡ get_or (boxed n sides 0 sums) (place j) slot
    slot_at = sym (get_or-boxed n sides 0 sums (place j) slot 0 place_in_sums ∙ ap (λ k. term (monomial_of_place n sides k) (get_or sums (place j) 0)) (omega arith))

    there : place j < length (boxed n sides 0 sums)
    there = let within = place_in_sums in omega (arith, length-boxed n sides 0 sums)

    -- what stands in the box then
    new_is : boxed n sides 0 (set sums (place j) new_sum) ≡ set (boxed n sides 0 sums) (place j) (term (monomial_product t.0 (item j).0) (slot.1 + t.1 * (item j).1))
    new_is =
        boxed-set n sides 0 sums (place j) new_sum
        ∙ ap₂ (λ (m : Monomial) (c : ℕ). set (boxed n sides 0 sums) (place j) (term m (get_or sums (place j) 0 + t.1 * c)))
        (ap (monomial_of_place n sides) (omega arith) ∙ same_monomial)
        (ap (λ (q : ℕ × ℕ). q.1) (place_is j column))

    one_more : i * (length long * 2 ^ 32) + j * 2 ^ 32 + 2 ^ 32 ≡ i * (length long * 2 ^ 32) + (j + 1) * 2 ^ 32
    one_more = omega arith

    most : ℕ
    most = i * (length long * 2 ^ 32) + j * 2 ^ 32

    -- a product more
    pub added_turn : AreAdded p n sides long i t whole (j + 1) (set sums (place j) new_sum)
    added_turn = record {
      sums = record {
        count = length-set sums (place j) new_sum ∙ added.sums.count;
        bound =
            let old = added.sums.bound (place j) 0 place_in_sums in
            All-set (λ (c : ℕ). c ≤ i * (length long * 2 ^ 32) + (j + 1) * 2 ^ 32) sums (place j) new_sum
            (omega (arith, coefficient_small j column, one_more))
            (All-weaker (λ (c : ℕ). c ≤ i * (length long * 2 ^ 32) + j * 2 ^ 32) (λ (c : ℕ). c ≤ i * (length long * 2 ^ 32) + (j + 1) * 2 ^ 32) (λ c below. omega (arith, one_more)) sums added.sums.bound);
      };
      same = rw new_is (sums_turn p (place j) j t (item j) slot (boxed n sides 0 sums) long whole there slot_at column (item_at j column) (λ above. same_monomial) added.same);
    }
