-- Pairs of terms of two factors, and the places of their products in a box.
use Rattle.std.specs.Prelude.{◌≡◌, ℕ, ◌<◌, ◌≤◌, ◌%◌, List, [], length, get_or, All}
use Rattle.polynomials.specs.Polynomials.{Term, term, term_product}
use Rattle.sparse_poly.specs.Boxes.{place_of}
use Rattle.sparse_poly.specs.declared.keys.Pair.{Pair}

-- the term at a place of a list
abbrev pub term_at : List Term → ℕ → Term
term_at terms k = get_or terms k (term [] 0)

-- the product of the terms of a pair
abbrev pub pair_term : List Term → List Term → Pair → Term
pair_term short long pair =
    term_product (term_at short pair.left) (term_at long pair.right)

-- the same with the coefficient reduced modulo p
abbrev pub reduced_pair : ℕ → List Term → List Term → Pair → Term
reduced_pair p short long pair =
    term (pair_term short long pair).0 ((pair_term short long pair).1 % p)

-- the pair has terms of both factors, and the place of their product
pub record IsPair (sides : List ℕ) (short long : List Term) (pair : Pair) : Type 0 where
  pub left : pair.left < length short
  pub right : pair.right < length long
  pub place : pair.place ≡ place_of sides (pair_term short long pair).0

-- each of them has
abbrev pub ArePairs : List ℕ → List Term → List Term → List Pair → Type 0
ArePairs sides short long pairs = All (IsPair sides short long) pairs

-- no place is greater than one before it
abbrev pub FallByPlace : List Pair → Type 0
FallByPlace pairs =
    (j k : ℕ) (d : Pair) → j < k → k < length pairs →
    (get_or pairs k d).place ≤ (get_or pairs j d).place
