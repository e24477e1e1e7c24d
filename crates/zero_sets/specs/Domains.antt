-- Finite rings and domains given by their tables, points, and values of polynomials at points.
use Rattle.std.specs.Prelude.{◌≡◌, ◌≢◌, ◌⊎◌, ℕ, zero, suc, ◌+◌, ◌*◌, ◌<◌, ◌≤◌, List, [], ◌∷◌, length, get_or}
use Rattle.std.specs.List.{AllByRecursion}
use Rattle.polynomials.specs.Monomials.{Monomial}
use Rattle.polynomials.specs.Polynomials.{Polynomial}

-- a size, the tables of sum and product of the numbers below it, row by row, and the numbers that
-- are 0 and 1
pub record Tables : Type 0 where
  pub size : ℕ
  pub sums : List ℕ
  pub products : List ℕ
  pub nil : ℕ
  pub one : ℕ

-- the sum of two elements
abbrev pub plus_in : Tables → ℕ → ℕ → ℕ
plus_in r x y = get_or r.sums (x * r.size + y) 0

-- the product of two elements
abbrev pub times_in : Tables → ℕ → ℕ → ℕ
times_in r x y = get_or r.products (x * r.size + y) 0

-- 1 added n times
abbrev pub ones_in : Tables → ℕ → ℕ
ones_in r zero = r.nil
ones_in r (suc n) = plus_in r r.one (ones_in r n)

-- a finite ring of characteristic p: commutative, with 1 other than 0, and the sum of p ones is 0
pub record IsFiniteRing (p : ℕ) (r : Tables) : Type 0 where
  pub many : 2 ≤ r.size
  pub sum_count : length r.sums ≡ r.size * r.size
  pub product_count : length r.products ≡ r.size * r.size
  pub nil_below : r.nil < r.size
  pub one_below : r.one < r.size
  pub sum_below : (x y : ℕ) → x < r.size → y < r.size → plus_in r x y < r.size
  pub product_below : (x y : ℕ) → x < r.size → y < r.size → times_in r x y < r.size
  pub add_comm : (x y : ℕ) → x < r.size → y < r.size → plus_in r x y ≡ plus_in r y x
  pub add_assoc : (x y z : ℕ) → x < r.size → y < r.size → z < r.size
      → plus_in r (plus_in r x y) z ≡ plus_in r x (plus_in r y z)
  pub nil-add : (x : ℕ) → x < r.size → plus_in r r.nil x ≡ x
  pub negative : (x : ℕ) → x < r.size → (y : ℕ) × (y < r.size) × (plus_in r y x ≡ r.nil)
  pub mul_comm : (x y : ℕ) → x < r.size → y < r.size → times_in r x y ≡ times_in r y x
  pub mul_assoc : (x y z : ℕ) → x < r.size → y < r.size → z < r.size
      → times_in r (times_in r x y) z ≡ times_in r x (times_in r y z)
  pub one-mul : (x : ℕ) → x < r.size → times_in r r.one x ≡ x
  pub mul-add : (x y z : ℕ) → x < r.size → y < r.size → z < r.size
      → times_in r x (plus_in r y z) ≡ plus_in r (times_in r x y) (times_in r x z)
  pub one_not_nil : r.one ≢ r.nil
  pub characteristic : ones_in r p ≡ r.nil

-- a finite domain: a finite ring where a product is 0 only where a factor is
pub record IsFiniteDomain (p : ℕ) (r : Tables) : Type 0 where
  pub ring : IsFiniteRing p r
  pub integral : (x y : ℕ) → x < r.size → y < r.size
      → times_in r x y ≡ r.nil → (x ≡ r.nil) ⊎ (y ≡ r.nil)

-- a point: a list of elements
abbrev pub IsPoint : Tables → List ℕ → Type 0
IsPoint r xs = AllByRecursion (λ x. x < r.size) xs

-- a point over a finite domain of characteristic p
pub record IsPointOver (p : ℕ) (r : Tables) (xs : List ℕ) : Type 0 where
  pub domain : IsFiniteDomain p r
  pub point : IsPoint r xs

-- x to the power e
abbrev pub power_at : Tables → ℕ → ℕ → ℕ
power_at r x zero = r.one
power_at r x (suc e) = times_in r x (power_at r x e)

-- the product of the powers of the coordinates; one that is missing counts as 1
abbrev pub monomial_at : Tables → List ℕ → Monomial → ℕ
monomial_at r [] m = r.one
monomial_at r (x ∷ xs) [] = r.one
monomial_at r (x ∷ xs) (e ∷ m) = times_in r (power_at r x e) (monomial_at r xs m)

-- the value of f at a point: the sum over its terms of the coefficient, as that many ones, times
-- the powers of the coordinates
abbrev pub value_at : Tables → List ℕ → Polynomial → ℕ
value_at r xs [] = r.nil
value_at r xs (t ∷ f) =
    plus_in r (times_in r (ones_in r t.1) (monomial_at r xs t.0)) (value_at r xs f)
