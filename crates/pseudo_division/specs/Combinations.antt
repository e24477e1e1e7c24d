-- Rows that stay combinations of named polynomials.
use Rattle.std.specs.Prelude.{ℕ, List}
use Rattle.mono_words.specs.declared.mono.TheConstants.{VARS}
use Rattle.polynomials.specs.Polynomials.{Polynomial, ArePolynomials}
use Rattle.division_rules.specs.Rows.{Row}
use Rattle.division_rules.specs.Chains.{EachRow}
use Rattle.division_rules.specs.Units.{IsCombinationOf}
use Rattle.pseudo_division.specs.FieldOperations.{operations}

-- over whatever polynomials each of the rows is the sum of its cofactors times them, so is h
abbrev pub IsCombinationWhere : ℕ → List (Row Polynomial) → Row Polynomial → Type 0
IsCombinationWhere p rows h =
    (generators : List Polynomial)
    → ArePolynomials p VARS generators
    → EachRow (IsCombinationOf (operations p) generators) rows
    → IsCombinationOf (operations p) generators h
