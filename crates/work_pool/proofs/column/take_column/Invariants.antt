use Rattle.std.proofs.Common.{◌≤◌, length}
use Rattle.work_pool.proofs.Rows.{PoppedTo}
use Rattle.work_pool.proofs.column.take_column.Given as goal

abbrev pub invariant-loop-i : goal.invariant-loop-i
invariant-loop-i g l = record {
  within : l.i ≤ length l.fn.rows.items;
  popped : PoppedTo l.own l.i l.fn.rows.items l.rows.items l.column.items;
}
