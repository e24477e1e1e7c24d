-- What is left of a division: terms of the dividend, and products in a heap.
use Rattle.std.specs.Prelude.{◌≡◌, ℕ, suc, ◌+◌, ◌*◌, ◌-◌, ◌%◌, ◌^◌, ◌<◌, List, ◌∷◌, ◌++◌, length, map, drop, All, IsPermutation}
use Rattle.std.specs.List.{flat_map}
use Rattle.std.specs.Ordering.{nat_cmp, ordering_then}
use Rattle.std.specs.declared.cmp.Ordering.{Ordering}
use Rattle.polynomials.specs.Monomials.{Monomial, monomial_order, monomial_product}
use Rattle.polynomials.specs.Polynomials.{Term, term, Polynomial, StartsBelow, IsPolynomial, collected}
use Rattle.sparse_poly.specs.Falling.{IsAtMost}
use Rattle.sparse_poly.specs.Keys.{term_at}
use Rattle.sparse_poly.specs.Pairs.{PairsFit}

-- an entry of a heap: a monomial, and a place in the quotient and one in the divisor
abbrev pub Entry : Type 0
Entry = Monomial × ℕ × ℕ

-- entries by their monomials, and by their places where these tie
abbrev pub entry_order : Entry → Entry → Ordering
entry_order d e =
    ordering_then (ordering_then (monomial_order d.0 e.0) (nat_cmp d.1 e.1)) (nat_cmp d.2 e.2)

-- the opposite of the product of a term u of the divisor and a term t of the quotient
abbrev pub opposite_product : ℕ → Term → Term → Term
opposite_product p u t = term (monomial_product t.0 u.0) ((p - t.1) % p * u.1 % p)

-- what an entry stands for: the opposite products of its term of the divisor g, and each term of
-- the quotient q from its place on
abbrev pub entry_products : ℕ → Polynomial → Polynomial → Entry → List Term
entry_products p q g e = map (opposite_product p (term_at g e.2)) (drop e.1 q)

-- and what all of them stand for
abbrev pub products_left : ℕ → Polynomial → Polynomial → List Entry → List Term
products_left p q g es = flat_map (entry_products p q g) es

-- what one more term t of the quotient adds, by terms of the divisor
abbrev pub added_products : ℕ → Term → List Term → List Term
added_products p t us = map (λ u. opposite_product p u t) us

-- an entry has the places of two factors, and the monomial of their product
abbrev pub IsEntry : Polynomial → Polynomial → Entry → Type 0
IsEntry q g e =
    (e.1 < length q)
    × (e.2 < length g)
    × (e.0 ≡ monomial_product (term_at q e.1).0 (term_at g e.2).0)

-- entries for products of the quotient q and terms g of the divisor: each term of g has one entry,
-- or it waits for the next term of q
pub record AreProducts
    (p n : ℕ) (q g : Polynomial) (es : List Entry) (waiting : List ℕ) : Type 0 where
  pub quotient : IsPolynomial p n q
  pub divisor : IsPolynomial p n g
  pub fit : PairsFit q g
  pub few : length q < 2 ^ 32
  pub entries : All (IsEntry q g) es
  pub places : All (λ j. j < length g) waiting
  pub each : IsPermutation (map (λ e. term_at g e.2) es ++ map (term_at g) waiting) g

-- the sum of terms and products
abbrev pub sum_of_rest : ℕ → Polynomial → List Term → Polynomial
sum_of_rest p terms products = collected p (terms ++ products)

-- t is taken out as the greatest, and the others stay: no product has a greater monomial, and each
-- later term a smaller one
pub record TakesGreatest
    (p n : ℕ) (terms products : List Term) (t : Term) (later others : List Term) : Type 0 where
  pub sum : sum_of_rest p terms products ≡ collected p (t ∷ (later ++ others))
  pub count : length terms + length products ≡ suc (length later + length others)
  pub variables : length t.0 ≡ n
  pub residue : t.1 < p
  pub below : StartsBelow t.0 later
  pub most : All (λ u. IsAtMost t.0 u.0) others
