-- The operations that division takes, for the polynomials of this library.
use Rattle.std.specs.Prelude.{ℕ, Option, Some, None}
use Rattle.mono_words.specs.declared.mono.TheConstants.{VARS}
use Rattle.polynomials.specs.Polynomials.{Polynomial}
use Rattle.division_rules.specs.Operations.{Operations}
use Rattle.division_rules.specs.Lists.{list_operations}
use Rattle.division_rules.specs.Rows.{Row}

-- the operations on polynomials over the field of p elements
abbrev pub operations : ℕ → Operations Polynomial
operations p = list_operations p VARS

-- the first entry of a row, where there is one
abbrev pub first_of : Option (Row Polynomial) → Option Polynomial
first_of None = None
first_of (Some f) = Some f.first
