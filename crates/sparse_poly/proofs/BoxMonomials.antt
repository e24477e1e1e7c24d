-- Monomials by their places in a box, counted down, and the sums that stand for their terms.
use Rattle.std.proofs.Common.{◌≡◌, ℕ, zero, suc, ◌+◌, ◌-◌, ◌*◌, ◌/◌, ◌%◌, ◌<◌, ◌≤◌, List, [], ◌∷◌, length, get_or, set, replicate, refl, sym, ap, ap₂, ◌∙◌, inl, inr, arith}
use Rattle.std.proofs.Math.Nat.{mod-lt, mul_comm}
use Rattle.std.proofs.lemmas.Bool.{cases_lt}
use Rattle.std.proofs.lemmas.Nat.{div-add-mod', div_below, div-mul-add, mod-mul-add}
use Rattle.polynomials.specs.Monomials.{Monomial, exponent_of, monomial_product}
use Rattle.polynomials.specs.MonomialOrders.{monomial_product_comm, replicate-monomial_product}
use Rattle.polynomials.specs.Polynomials.{Term, term}
use Rattle.polynomials.proofs.Exponents.{power_monomial}
use Rattle.polynomials.proofs.SamePolynomials.{SameSums, SameSums-refl, SameSums-trans}
use Rattle.polynomials.proofs.SameSumsLemmas.{SameSums-zero}
use Rattle.sparse_poly.specs.Boxes.{box_size, place_of, monomial_of_place, boxed}
use Rattle.sparse_poly.proofs.BoxPlaces.{IsAt, times_sum, place_within, same_place}
use Rattle.sparse_poly.proofs.Slots.{StandInOrder}

-- each side has a place
abbrev pub HavePlaces : List ℕ → Type 0
HavePlaces sides = (v : ℕ) → 0 < get_or sides v 1

-- a digit that isn't the last of its side goes up alone
digit_up : (s k : ℕ) → 0 < s → k % s + 1 < s → ((k + 1) % s ≡ k % s + 1) × ((k + 1) / s ≡ k / s)
digit_up s k some more =
    let whole : k / s * s + (k % s + 1) ≡ k + 1 = omega (arith, div-add-mod' k s) in (
      ap (λ x. x % s) (sym whole) ∙ mod-mul-add (k / s) s (k % s + 1) more,
      ap (λ x. x / s) (sym whole) ∙ div-mul-add (k / s) s (k % s + 1) more,
    )

-- after the last comes 0, and the next digits go up
digit_wraps : (s k : ℕ) → 0 < s → k % s + 1 ≡ s → ((k + 1) % s ≡ 0) × ((k + 1) / s ≡ k / s + 1)
digit_wraps s k some last =
    let next : (k / s + 1) * s ≡ k / s * s + s = omega (arith, mul_comm (k / s + 1) s, times_sum s (k / s) 1, mul_comm s (k / s)) in
    let whole : (k / s + 1) * s + 0 ≡ k + 1 = omega (arith, div-add-mod' k s) in (
      ap (λ x. x % s) (sym whole) ∙ mod-mul-add (k / s + 1) s 0 some,
      ap (λ x. x / s) (sym whole) ∙ div-mul-add (k / s + 1) s 0 some,
    )

-- a digit above 0 went up
digit_above : (s k : ℕ) → 0 < s → 0 < (k + 1) % s → ((k + 1) % s ≡ k % s + 1) × ((k + 1) / s ≡ k / s)
digit_above s k some above = elim (cases_lt (k % s + 1) s) [
  | inl more ↦ digit_up s k some more
  | inr most ↦
      let small = mod-lt k some in
      let none = (digit_wraps s k some (omega arith)).0 in
      absurd (omega arith)
]

-- and 0 comes after the last one
digit_none : (s k : ℕ) → 0 < s → (k + 1) % s ≡ 0 → (k % s + 1 ≡ s) × ((k + 1) / s ≡ k / s + 1)
digit_none s k some none = elim (cases_lt (k % s + 1) s) [
  | inl more ↦ let up = (digit_up s k some more).0 in absurd (omega arith)
  | inr most ↦
      let small = mod-lt k some in
      let last : k % s + 1 ≡ s = omega arith in
      (last, (digit_wraps s k some last).1)
]

-- a monomial of a place has n exponents
pub length-monomial_of_place : (n : ℕ) (sides : List ℕ) (k : ℕ) → length (monomial_of_place n sides k) ≡ n
length-monomial_of_place zero sides k = refl
length-monomial_of_place (suc n) [] k = omega (arith, length-monomial_of_place n [] k)
length-monomial_of_place (suc n) (s ∷ sides) k = omega (arith, length-monomial_of_place n sides (k / s))

-- each is below its side
inside_at : (n : ℕ) (sides : List ℕ) (k : ℕ) → HavePlaces sides → (v : ℕ) → exponent_of v (monomial_of_place n sides k) < get_or sides v 1
inside_at zero sides k some v = some v
inside_at (suc n) [] k some zero = omega arith
inside_at (suc n) [] k some (suc v) = inside_at n [] k (λ w. some (suc w)) v
inside_at (suc n) (s ∷ sides) k some zero = mod-lt k (some 0)
inside_at (suc n) (s ∷ sides) k some (suc v) = inside_at n sides (k / s) (λ w. some (suc w)) v

-- and they are the digits of the place
place_at : (n : ℕ) (sides : List ℕ) (k : ℕ) → length sides ≤ n → HavePlaces sides → k < box_size sides → place_of sides (monomial_of_place n sides k) ≡ k
place_at n [] k few some below = omega arith
place_at zero (s ∷ sides) k few some below = absurd (omega arith)
place_at (suc n) (s ∷ sides) k few some below =
    let within : k / s < box_size sides = div_below k s (box_size sides) (some 0) (omega (arith, mul_comm (box_size sides) s)) in
    ap (λ x. k % s + s * x) (place_at n sides (k / s) (omega arith) (λ w. some (suc w)) within)
    ∙ omega (arith, div-add-mod' k s, mul_comm s (k / s))

module _ (n : ℕ) (sides : List ℕ) (few : length sides ≤ n) (some : HavePlaces sides) where
  pub at_place : (k : ℕ) → k < box_size sides → IsAt n sides k (monomial_of_place n sides k)
  at_place k below = record {
    variables = length-monomial_of_place n sides k;
    inside = inside_at n sides k some;
    place = place_at n sides k few some below;
  }

  -- no other monomial is there
  pub at_is : (k : ℕ) (m : Monomial) → IsAt n sides k m → m ≡ monomial_of_place n sides k
  at_is k m is =
      let place = is.place in
      let within : k < box_size sides = omega (arith, place_within sides m is.inside) in
      let there = at_place k within in
      let same = there.place in
      same_place sides m (monomial_of_place n sides k) (is.variables ∙ sym there.variables) is.inside there.inside (omega arith)

-- without sides all exponents are 0
without_sides : (n j k : ℕ) → monomial_of_place n [] j ≡ monomial_of_place n [] k
without_sides zero j k = refl
without_sides (suc n) j k = ap (λ (m : Monomial). 0 ∷ m) (without_sides n j k)

zeros_without_sides : (n k : ℕ) → monomial_of_place n [] k ≡ replicate n 0
zeros_without_sides zero k = refl
zeros_without_sides (suc n) k = ap (λ (m : Monomial). 0 ∷ m) (zeros_without_sides n k)

-- after the last place comes the first
pub first_again : (n : ℕ) (sides : List ℕ) → HavePlaces sides → monomial_of_place n sides (box_size sides) ≡ replicate n 0
first_again zero sides some = refl
first_again (suc n) [] some = zeros_without_sides (suc n) 1
first_again (suc n) (s ∷ sides) some =
    let whole : box_size sides * s + 0 ≡ s * box_size sides = omega (arith, mul_comm s (box_size sides)) in
    ap₂ (λ (e : ℕ) (m : Monomial). e ∷ m)
    (ap (λ x. x % s) (sym whole) ∙ mod-mul-add (box_size sides) s 0 (some 0))
    (ap (monomial_of_place n sides) (ap (λ x. x / s) (sym whole) ∙ div-mul-add (box_size sides) s 0 (some 0))
    ∙ first_again n sides (λ w. some (suc w)))

-- the monomial at the place k + 1, where the exponents below v were 0 and are those of the place k
abbrev pub counted : ℕ → ℕ → List ℕ → ℕ → Monomial
counted zero n sides k = monomial_of_place n sides (k + 1)
counted (suc v) zero sides k = []
counted (suc v) (suc n) [] k = 0 ∷ counted v n [] k
counted (suc v) (suc n) (s ∷ sides) k = k % s ∷ counted v n sides (k / s)

-- with all of them it is that of the place k
pub counted_end : (n : ℕ) (sides : List ℕ) (k : ℕ) → counted (length sides) n sides k ≡ monomial_of_place n sides k
counted_end n [] k = without_sides n (k + 1) k
counted_end zero (s ∷ sides) k = refl
counted_end (suc n) (s ∷ sides) k = ap (λ (m : Monomial). k % s ∷ m) (counted_end n sides (k / s))

-- a monomial times the one without exponents
times_zeros : (n : ℕ) (m : Monomial) → length m ≡ n → monomial_product m (replicate n 0) ≡ m
times_zeros n m count = monomial_product_comm m (replicate n 0) ∙ replicate-monomial_product n m count

-- an exponent above 0 goes down by 1
pub counted_some : (v n : ℕ) (sides : List ℕ) (k : ℕ) → v < length sides → length sides ≤ n → HavePlaces sides → 0 < exponent_of v (counted v n sides k) → monomial_product (monomial_of_place n sides k) (power_monomial n v 1) ≡ counted v n sides k
counted_some v n [] k below few some above = absurd (omega arith)
counted_some v zero (s ∷ sides) k below few some above = absurd (omega arith)
counted_some zero (suc n) (s ∷ sides) k below few some above =
    let up = digit_above s k (some 0) above in
    ap₂ (λ (e : ℕ) (m : Monomial). e ∷ m) (sym up.0)
    (times_zeros n (monomial_of_place n sides (k / s)) (length-monomial_of_place n sides (k / s)) ∙ ap (monomial_of_place n sides) (sym up.1))
counted_some (suc v) (suc n) (s ∷ sides) k below few some above =
    ap₂ (λ (e : ℕ) (m : Monomial). e ∷ m) (omega arith)
    (counted_some v n sides (k / s) (omega arith) (omega arith) (λ w. some (suc w)) above)

-- one that is 0 goes to the last below its side
pub counted_none : (v n : ℕ) (sides : List ℕ) (k : ℕ) → v < length sides → length sides ≤ n → HavePlaces sides → exponent_of v (counted v n sides k) ≡ 0 → monomial_product (counted v n sides k) (power_monomial n v (get_or sides v 0 - 1)) ≡ counted (suc v) n sides k
counted_none v n [] k below few some none = absurd (omega arith)
counted_none v zero (s ∷ sides) k below few some none = absurd (omega arith)
counted_none zero (suc n) (s ∷ sides) k below few some none =
    let last = digit_none s k (some 0) none in
    let digit = last.0 in
    ap₂ (λ (e : ℕ) (m : Monomial). e ∷ m) (omega arith)
    (times_zeros n (monomial_of_place n sides ((k + 1) / s)) (length-monomial_of_place n sides ((k + 1) / s)) ∙ ap (monomial_of_place n sides) last.1)
counted_none (suc v) (suc n) (s ∷ sides) k below few some none =
    ap₂ (λ (e : ℕ) (m : Monomial). e ∷ m) (omega arith)
    (counted_none v n sides (k / s) (omega arith) (omega arith) (λ w. some (suc w)) none)

-- a term for each sum
pub length-boxed : (n : ℕ) (sides : List ℕ) (k : ℕ) (sums : List ℕ) → length (boxed n sides k sums) ≡ length sums
length-boxed n sides k [] = refl
length-boxed n sides k (c ∷ sums) = omega (arith, length-boxed n sides (suc k) sums)

-- the term at a place
pub get_or-boxed : (n : ℕ) (sides : List ℕ) (k : ℕ) (sums : List ℕ) (j : ℕ) (d : Term) (e : ℕ) → j < length sums → get_or (boxed n sides k sums) j d ≡ term (monomial_of_place n sides (k + j)) (get_or sums j e)
get_or-boxed n sides k [] j d e below = absurd (omega arith)
get_or-boxed n sides k (c ∷ sums) zero d e below = ap (λ i. term (monomial_of_place n sides i) c) (omega arith)
get_or-boxed n sides k (c ∷ sums) (suc j) d e below =
    get_or-boxed n sides (suc k) sums j d e (omega arith)
    ∙ ap (λ i. term (monomial_of_place n sides i) (get_or sums j e)) (omega arith)

-- another sum at a place
pub boxed-set : (n : ℕ) (sides : List ℕ) (k : ℕ) (sums : List ℕ) (j c : ℕ) → boxed n sides k (set sums j c) ≡ set (boxed n sides k sums) j (term (monomial_of_place n sides (k + j)) c)
boxed-set n sides k [] j c = refl
boxed-set n sides k (d ∷ sums) zero c = ap (λ i. term (monomial_of_place n sides i) c ∷ boxed n sides (suc k) sums) (omega arith)
boxed-set n sides k (d ∷ sums) (suc j) c =
    ap (λ (l : List Term). term (monomial_of_place n sides k) d ∷ l)
    (boxed-set n sides (suc k) sums j c
    ∙ ap (λ i. set (boxed n sides (suc k) sums) j (term (monomial_of_place n sides i) c)) (omega arith))

-- they stand in their order
pub boxed_stands : (n : ℕ) (sides : List ℕ) (k : ℕ) (sums : List ℕ) → length sides ≤ n → HavePlaces sides → k + length sums ≤ box_size sides → StandInOrder n sides k (boxed n sides k sums)
boxed_stands n sides k [] few some within = tt
boxed_stands n sides k (c ∷ sums) few some within = (
  (λ above. at_place n sides few some k (omega arith)),
  boxed_stands n sides (suc k) sums few some (omega arith),
)

-- sums of 0 hold nothing
pub boxed_zeros : (p n : ℕ) (sides : List ℕ) (k count : ℕ) → SameSums p (boxed n sides k (replicate count 0)) []
boxed_zeros p n sides k zero = SameSums-refl p []
boxed_zeros p n sides k (suc count) =
    SameSums-trans p (term (monomial_of_place n sides k) 0 ∷ boxed n sides (suc k) (replicate count 0)) (boxed n sides (suc k) (replicate count 0)) []
    (SameSums-zero p (monomial_of_place n sides k) (boxed n sides (suc k) (replicate count 0)))
    (boxed_zeros p n sides (suc k) count)
