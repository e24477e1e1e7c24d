-- What the solver asks of its options and of an input.
use Rattle.std.specs.Prelude.{ℕ, ◌≤◌, length}
use Rattle.tri_io.specs.Commands.{Options}
use Rattle.tri_io.specs.declared.input.Input.{Input}
use Rattle.tri_io.specs.declared.input.Input.TheVariants.{Whole, TooLong}
use Rattle.run_rules.specs.Programs.{most_bytes}

-- products have to fit a width from 1 to 1,000,000
abbrev pub HasWidth : Options → Type 0
HasWidth options = (1 ≤ options.width) × (options.width ≤ 1000000)

-- what was read is not too long for a text
abbrev pub FitsText : Input → Type 0
FitsText (Whole bytes) = length bytes.items ≤ most_bytes
FitsText TooLong = Unit {0}
