-- Remainder rows as an answer: all rows with their leads, and how they end.
use Rattle.std.specs.Prelude.{ℕ, suc, Bool, List, [], ◌∷◌, ◌++◌, length, drop, Option, Some, None}
use Rattle.polynomials.specs.Polynomials.{Polynomial}
use Rattle.division_rules.specs.Rows.{Row}
use Rattle.division_rules.specs.RemainderRows.{LaterRows, leads}
use Rattle.division_rules.specs.RemainderRowsWithin.{remainder_rows_within}
use Rattle.pseudo_division.specs.FieldOperations.{operations}
use Rattle.subresultants.specs.Generators.{generator_row, generator_rows}
use Rattle.subresultants.specs.AllRows.{RemainderRows, AllRemainders, Coprime, Common, TooWide}

-- rows, with the leads in v from row 1 on
abbrev pub with_leads : ℕ → ℕ → List (Row Polynomial) → RemainderRows
with_leads p v rows = record { rows = rows; leads = leads (operations p) v (drop 1 rows) }

-- how they end: with a zero row, or without one
abbrev pub ended : RemainderRows → Option (Row Polynomial) → AllRemainders
ended rows None = Coprime rows
ended rows (Some z) = Common rows z

-- the rows so far with those that follow, where each product fits
abbrev pub outcome_after :
    ℕ → ℕ → List (Row Polynomial) → Option (LaterRows Polynomial) → AllRemainders
outcome_after p v before None = TooWide
outcome_after p v before (Some rows) = ended (with_leads p v (before ++ rows.later)) rows.last

-- the remainder rows of the rows t and c in v below a chain of rows, within a width
abbrev pub outcome_of :
    ℕ → ℕ → ℕ → List (Row Polynomial) → Row Polynomial → Row Polynomial → AllRemainders
outcome_of p w v chain t c =
    outcome_after p v (t ∷ c ∷ []) (remainder_rows_within (operations p) w v chain t c)

-- those of the polynomials t and c, where each row has cofactors of c, t and the chain, or none has
abbrev pub remainders_of :
    ℕ → ℕ → ℕ → Bool → Polynomial → Polynomial → List Polynomial → AllRemainders
remainders_of p w v cofactors t c chain =
    outcome_of p w v (generator_rows p cofactors 2 chain)
    (generator_row cofactors 1 (length chain) t)
    (generator_row cofactors 0 (suc (length chain)) c)
