-- The child that was taken has the number of all that were left.
use Rattle.std.proofs.Common.{◌∷◌, [], length, arith, ap, length-append}
use Rattle.generators.proofs.Numbered.{one_more_waits}
use Rattle.generators.proofs.children.let_wait.Goals as goal

pub loop-task-preserved : goal.loop-task-preserved
loop-task-preserved g c = record {
  left = omega (arith, c.loop-task.invariant.left, ap length c.in-Some.ensures.item, length-append c.take_last.new.self (c.in-Some.task ∷ []));
  whole =
      one_more_waits _ _ _ c.loop-task.number _ _ c.in-Some.task _ _ _ c.in-Some.ensures.item c.loop-task.invariant.left c.in_ok-child.ensures c.in_ok-push_front.ensures.ok
      c.loop-task.invariant.whole;
}
