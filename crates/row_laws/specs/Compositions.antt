-- The composition of two rows: one for a polynomial c, and one over c, t and what stands before t.
use Rattle.std.specs.Prelude.{ℕ, ◌-◌, List, [], ◌∷◌, ◌++◌, length, map, replicate}
use Rattle.polynomials.specs.Primes.{IsPrime}
use Rattle.polynomials.specs.Polynomials.{Polynomial, ArePolynomials, product_of}
use Rattle.division_rules.specs.Cofactors.{first_cofactor}
use Rattle.division_rules.specs.Lists.{list_operations}
use Rattle.division_rules.specs.Rows.{Row}
use Rattle.division_rules.specs.Units.{entrywise_sum}
use Rattle.row_laws.specs.Combinations.{IsRowOver}
use Rattle.row_laws.specs.Degrees.{IsRowFreeOf}

-- cofactors of c, t and the polynomials before t at their places among so many generators, of which
-- the second to the last are those before t, t, and more: that of c is left out
abbrev pub spread : ℕ → List Polynomial → List Polynomial
spread count [] = replicate count []
spread count (a ∷ []) = replicate count []
spread count (a ∷ b ∷ bs) = [] ∷ bs ++ b ∷ replicate (count - length (a ∷ b ∷ bs)) []

-- the first entry of next, whose first cofactor a is that of c, with a times the cofactors of the
-- row for c and the other cofactors of next
abbrev pub composition : ℕ → ℕ → Row Polynomial → Row Polynomial → Row Polynomial
composition p n f next = record {
  first = next.first;
  cofactors =
      entrywise_sum (list_operations p n)
      (map (product_of p (first_cofactor (list_operations p n) next)) f.cofactors)
      (spread (length f.cofactors) next.cofactors);
}

-- where f is a row over h, a list with t in it, and more, and next one over f's first entry, t and
-- what stands before t, the composition is a row over the generators of f
abbrev pub CompositionsAreRows : Type 0
CompositionsAreRows =
    (p n : ℕ) (h t : Polynomial) (before more : List Polynomial) (f next : Row Polynomial)
    → IsPrime p
    → ArePolynomials p n (h ∷ before ++ t ∷ more)
    → IsRowOver p n (h ∷ before ++ t ∷ more) f
    → IsRowOver p n (f.first ∷ t ∷ before) next
    → IsRowOver p n (h ∷ before ++ t ∷ more) (composition p n f next)

-- no entry of a composition has a variable that no entry of both rows has
abbrev pub CompositionsAreFree : Type 0
CompositionsAreFree =
    (p n x : ℕ) (f next : Row Polynomial)
    → IsRowFreeOf x f
    → IsRowFreeOf x next
    → IsRowFreeOf x (composition p n f next)
