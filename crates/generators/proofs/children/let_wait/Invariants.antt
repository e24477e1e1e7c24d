-- The children that were taken wait in front, and those that are left have the numbers from 1.
use Rattle.std.proofs.Common.{◌≡◌, ◌++◌, length}
use Rattle.split_paths.specs.Tree.{numbered}
use Rattle.generators.proofs.children.let_wait.Given as goal

abbrev pub invariant-loop-task : goal.invariant-loop-task
invariant-loop-task g l = record {
  left : l.number ≡ length l.kids;
  whole : numbered l.path l.steps 1 l.kids ++ l.waiting
      ≡ numbered l.path l.steps 1 l.initial.kids ++ l.initial.waiting;
}

abbrev pub decreases-loop-task : goal.decreases-loop-task
decreases-loop-task g l = length l.kids
