-- The prime is in the table.
use Rattle.std.proofs.Common.{refl, sym, lit≤, true≢false}
use Rattle.arithmetic_bench.proofs.operations.made_work.Goals as goal

pub unreachable-requires : goal.unreachable-requires
unreachable-requires c = true≢false (sym (c.in-Err.ensures.offered.1 (9, lit≤ tt, refl)))
