-- Polynomials as rows over generators, or as rows without cofactors.
use Rattle.std.specs.Prelude.{ℕ, Bool, true, false, List, []}
use Rattle.mono_words.specs.declared.mono.TheConstants.{VARS}
use Rattle.polynomials.specs.Polynomials.{Polynomial, one_of}
use Rattle.division_rules.specs.Rows.{Row, plain, plains}
use Rattle.division_rules.specs.Units.{unit_row, unit_rows}
use Rattle.pseudo_division.specs.FieldOperations.{operations}

-- f as a row: with the cofactors of a generator, or without any
abbrev pub generator_row : Bool → ℕ → ℕ → Polynomial → Row Polynomial
generator_row true before behind f = unit_row [] (one_of VARS) before behind f
generator_row false before behind f = plain f

-- the last generators as rows, where others stand before them
abbrev pub generator_rows : ℕ → Bool → ℕ → List Polynomial → List (Row Polynomial)
generator_rows p true before fs = unit_rows (operations p) before fs
generator_rows p false before fs = plains fs
