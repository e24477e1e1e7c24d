-- Boxes of monomials: in each variable the exponents below a side, counted in their order.
use Rattle.std.specs.Prelude.{◌≡◌, ℕ, zero, suc, ◌+◌, ◌*◌, ◌/◌, ◌%◌, ◌^◌, ◌<◌, ◌≤◌, List, [], ◌∷◌, ◌++◌, length, get_or, All}
use Rattle.polynomials.specs.Monomials.{Monomial, exponent_of}
use Rattle.polynomials.specs.Polynomials.{Term, term, Polynomial, IsPolynomial, with_first}
use Rattle.polynomials.specs.Views.{degree_in}
use Rattle.sparse_poly.specs.Pairs.{PairsFit}

-- the number of monomials of a box with these sides, the side of the least variable first
abbrev pub box_size : List ℕ → ℕ
box_size [] = 1
box_size (side ∷ sides) = side * box_size sides

-- each exponent is below its side, and a variable that has no side doesn't occur
abbrev pub IsInside : List ℕ → Monomial → Type 0
IsInside sides m = (v : ℕ) → exponent_of v m < get_or sides v 1

-- how many monomials of the box are less than m
abbrev pub place_of : List ℕ → Monomial → ℕ
place_of [] m = 0
place_of (side ∷ sides) [] = 0
place_of (side ∷ sides) (e ∷ m) = e + side * place_of sides m

-- the monomial of n exponents at the place k: the digits of k to the sides, the least first
abbrev pub monomial_of_place : ℕ → List ℕ → ℕ → Monomial
monomial_of_place zero sides k = []
monomial_of_place (suc n) [] k = 0 ∷ monomial_of_place n [] k
monomial_of_place (suc n) (side ∷ sides) k = k % side ∷ monomial_of_place n sides (k / side)

-- the slots from the last to the first, reduced modulo p, without those that are 0
abbrev pub from_slots : ℕ → List Term → Polynomial
from_slots p [] = []
from_slots p (slot ∷ slots) = from_slots p slots ++ with_first (term slot.0 (slot.1 % p)) []

-- the terms of the sums at the places from k on
abbrev pub boxed : ℕ → List ℕ → ℕ → List ℕ → List Term
boxed n sides k [] = []
boxed n sides k (sum ∷ sums) = term (monomial_of_place n sides k) sum ∷ boxed n sides (suc k) sums

-- a sum for each place of the box, none above that
pub record AreSums (sides : List ℕ) (most : ℕ) (sums : List ℕ) : Type 0 where
  pub count : length sums ≡ box_size sides
  pub bound : All (λ (sum : ℕ). sum ≤ most) sums

-- two factors, and a box for the monomials of their product
pub record IsBoxOf (p n : ℕ) (sides : List ℕ) (short long : List Term) : Type 0 where
  pub left : IsPolynomial p n short
  pub right : IsPolynomial p n long
  pub left_some : 0 < length short
  pub right_some : 0 < length long
  pub fit : PairsFit short long
  pub inside : (v : ℕ) → degree_in v short + degree_in v long < get_or sides v 1
  pub narrow : (v : ℕ) → get_or sides v 1 ≤ 2 ^ 16
  pub variables : length sides ≤ n
  pub size : box_size sides ≤ 2 ^ 62
  pub pairs : length short * length long < 2 ^ 32

-- the place of the monomial, and the coefficient
abbrev pub placed : List ℕ → Term → ℕ × ℕ
placed sides t = (place_of sides t.0, t.1)
