-- The first place among the names that are left.
use Rattle.std.proofs.Common.{◌≡◌, drop}
use Rattle.system_text.specs.Factors.{place_of_name}
use Rattle.system_parser.specs.Systems.{names_of}
use Rattle.system_parser.proofs.names.place_of.Given as goal

abbrev pub invariant-loop-i : goal.invariant-loop-i
invariant-loop-i l = place_of_name l.i (drop l.i (names_of l.names)) l.bytes ≡ place_of_name 0 (names_of l.names) l.bytes
