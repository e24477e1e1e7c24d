-- Places of monomials in a box: those of products, and their order.
use Rattle.std.proofs.Common.{◌≡◌, ℕ, zero, suc, ◌+◌, ◌*◌, ◌<◌, List, [], ◌∷◌, length, refl, ap, ap₂, ◌∙◌, inl, inr, subst, arith}
use Rattle.std.specs.Ordering.{nat_cmp, ordering_then}
use Rattle.std.specs.declared.cmp.Ordering.TheVariants.{Less, Equal}
use Rattle.std.proofs.lemmas.Bool.{cases_lt}
use Rattle.std.proofs.lemmas.Bool.Decides.{nat_tests}
use Rattle.std.proofs.lemmas.Nat.{mul-le}
use Rattle.polynomials.specs.Monomials.{Monomial, monomial_order, monomial_product}
use Rattle.polynomials.specs.MonomialOrders.{monomial_order_same}
use Rattle.sparse_poly.specs.Boxes.{box_size, IsInside, place_of}

-- m is the monomial of n exponents at the place k of the box
pub record IsAt (n : ℕ) (sides : List ℕ) (k : ℕ) (m : Monomial) : Type 0 where
  pub variables : length m ≡ n
  pub inside : IsInside sides m
  pub place : place_of sides m ≡ k

-- a factor times a sum
pub times_sum : (s a b : ℕ) → s * (a + b) ≡ s * a + s * b
times_sum s a b = omega (arith, ring_step s a b)
  where
    ring_step : (s a b : ℕ) → s * (a + b) ≡ s * a + s * b
    ring_step zero a b = omega arith
    ring_step (suc s) a b = omega (arith, ring_step s a b)

-- the place of a product is the sum of the places
pub place_of-product : (sides : List ℕ) (l m : Monomial) → place_of sides (monomial_product l m) ≡ place_of sides l + place_of sides m
place_of-product [] l m = refl
place_of-product (s ∷ sides) [] m = omega arith
place_of-product (s ∷ sides) (d ∷ l) [] = omega arith
place_of-product (s ∷ sides) (d ∷ l) (e ∷ m) =
    ap (λ x. d + e + s * x) (place_of-product sides l m)
    ∙ omega (arith, times_sum s (place_of sides l) (place_of sides m))

-- a place below a number, and an exponent below its side
pub place_below : (s e place size : ℕ) → e < s → place < size → e + s * place < s * size
place_below s e place size small below =
    omega (arith, times_sum s place 1, mul-le s (place + 1) s size (omega arith) (omega arith))

-- the places of the box are below its size
pub place_within : (sides : List ℕ) (m : Monomial) → IsInside sides m → place_of sides m < box_size sides
place_within [] m inside = omega arith
place_within (s ∷ sides) [] inside =
    let some : 0 < s = inside 0 in
    omega (arith, place_below s 0 (place_of sides []) (box_size sides) some (place_within sides [] (λ v. inside (suc v))))
place_within (s ∷ sides) (e ∷ m) inside =
    place_below s e (place_of sides m) (box_size sides) (inside 0) (place_within sides m (λ v. inside (suc v)))

-- an order of numbers by quotient and remainder
order_of_sums : (s d e a b : ℕ) → d < s → e < s → ordering_then (nat_cmp a b) (nat_cmp d e) ≡ nat_cmp (d + s * a) (e + s * b)
order_of_sums s d e a b small below = elim (cases_lt a b) [
  | inl less ↦ let apart = place_below s d a b small less in grind (arith, nat_tests)
  | inr least ↦ elim (cases_lt b a) [
    | inl more ↦ let apart = place_below s e b a below more in grind (arith, nat_tests)
    | inr most ↦
        let same : a ≡ b = omega arith in
        subst (λ x. ordering_then (nat_cmp a x) (nat_cmp d e) ≡ nat_cmp (d + s * a) (e + s * x)) same (tied d e (s * a) a)
  ]
]
  where
    tied : (d e x a : ℕ) → ordering_then (nat_cmp a a) (nat_cmp d e) ≡ nat_cmp (d + x) (e + x)
    tied d e x a = grind (arith, nat_tests)

-- without a side no variable occurs
order_of_ones : (l m : Monomial) → length l ≡ length m → IsInside [] l → IsInside [] m → monomial_order l m ≡ Equal
order_of_ones [] [] same first second = refl
order_of_ones [] (e ∷ m) same first second = absurd (omega arith)
order_of_ones (d ∷ l) [] same first second = absurd (omega arith)
order_of_ones (d ∷ l) (e ∷ m) same first second =
    let low : d < 1 = first 0 in
    let high : e < 1 = second 0 in
    ap₂ ordering_then (order_of_ones l m (omega arith) (λ v. first (suc v)) (λ v. second (suc v))) (tie d e low high)
  where
    tie : (d e : ℕ) → d < 1 → e < 1 → nat_cmp d e ≡ Equal
    tie d e low high = grind (arith, nat_tests)

-- the order of monomials is that of their places
pub order_of_places : (sides : List ℕ) (l m : Monomial) → length l ≡ length m → IsInside sides l → IsInside sides m → monomial_order l m ≡ nat_cmp (place_of sides l) (place_of sides m)
order_of_places [] l m same first second = order_of_ones l m same first second
order_of_places (s ∷ sides) [] [] same first second = refl
order_of_places (s ∷ sides) [] (e ∷ m) same first second = absurd (omega arith)
order_of_places (s ∷ sides) (d ∷ l) [] same first second = absurd (omega arith)
order_of_places (s ∷ sides) (d ∷ l) (e ∷ m) same first second =
    ap (λ o. ordering_then o (nat_cmp d e)) (order_of_places sides l m (omega arith) (λ v. first (suc v)) (λ v. second (suc v)))
    ∙ order_of_sums s d e (place_of sides l) (place_of sides m) (first 0) (second 0)

-- so monomials at one place are the same
pub same_place : (sides : List ℕ) (l m : Monomial) → length l ≡ length m → IsInside sides l → IsInside sides m → place_of sides l ≡ place_of sides m → l ≡ m
same_place sides l m same first second place =
    monomial_order_same l m (order_of_places sides l m same first second ∙ tie (place_of sides l) (place_of sides m) place)
  where
    tie : (a b : ℕ) → a ≡ b → nat_cmp a b ≡ Equal
    tie a b e = grind (arith, nat_tests)

-- and one at a lower place is less
pub lower_place : (sides : List ℕ) (l m : Monomial) → length l ≡ length m → IsInside sides l → IsInside sides m → place_of sides l < place_of sides m → monomial_order l m ≡ Less
lower_place sides l m same first second place =
    order_of_places sides l m same first second ∙ below (place_of sides l) (place_of sides m) place
  where
    below : (a b : ℕ) → a < b → nat_cmp a b ≡ Less
    below a b e = grind (arith, nat_tests)
