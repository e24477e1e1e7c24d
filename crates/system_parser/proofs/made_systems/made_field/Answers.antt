-- The prime is in the table.
use Rattle.std.proofs.Common.{refl, sym, lit≤, true≢false}
use Rattle.system_parser.proofs.made_systems.made_field.Goals as goal

pub unreachable-requires : goal.unreachable-requires
unreachable-requires c = true≢false (sym (c.in-Err.ensures.offered.1 (8, lit≤ tt, refl)))
