use Rattle.std.proofs.Common.{◌≡◌, arith}
use Rattle.work_pool.proofs.Rows.{popped_next, popped_all}
use Rattle.work_pool.proofs.column.take_column.Goals as goal

pub loop-i-preserved : goal.loop-i-preserved
loop-i-preserved g c = record {
  within = omega arith;
  popped = popped_next _ _ c.args.rows.now.items c.loop-i.rows.items c.loop-i.column.items _ c.index_mut.result.now c.pop_row.new.row
      (omega arith) c.index_mut.ensures.value c.in_ok-pop_row.ensures c.loop-i.invariant.popped;
}
