-- Rows that are composed over the generators of the first.
use Rattle.std.specs.Prelude.{ℕ, List, ◌∷◌, ◌++◌}
use Rattle.mono_words.specs.declared.mono.TheConstants.{VARS}
use Rattle.polynomials.specs.Polynomials.{Polynomial, ArePolynomials}
use Rattle.division_rules.specs.Rows.{Row}
use Rattle.row_laws.specs.Combinations.{IsRowOver}

-- where sofar is a row over h and a list with t in it, and next one over the first entry of sofar,
-- t and what stands before t in the list, f is a row over the generators of sofar
abbrev pub IsComposedWhere : ℕ → Row Polynomial → Row Polynomial → Row Polynomial → Type 0
IsComposedWhere p sofar next f =
    (h t : Polynomial) (before more : List Polynomial)
    → ArePolynomials p VARS (h ∷ before ++ t ∷ more)
    → IsRowOver p VARS (h ∷ before ++ t ∷ more) sofar
    → IsRowOver p VARS (sofar.first ∷ t ∷ before) next
    → IsRowOver p VARS (h ∷ before ++ t ∷ more) f
