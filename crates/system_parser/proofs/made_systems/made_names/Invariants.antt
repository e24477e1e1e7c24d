-- The names so far are the first letters.
use Rattle.std.proofs.Common.{◌≡◌, map, take, string_bytes}
use Rattle.system_parser.specs.Made.{made_names}
use Rattle.system_parser.proofs.made_systems.made_names.Given as goal

abbrev pub invariant-loop-letter : goal.invariant-loop-letter
invariant-loop-letter l = map string_bytes l.names ≡ take l.letter-index made_names
