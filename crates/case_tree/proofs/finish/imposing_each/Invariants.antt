-- The tasks so far, and those to come, are all.
use Rattle.std.proofs.Common.{◌≡◌, ◌++◌, map, drop}
use Rattle.case_rules.specs.Finish.{imposing}
use Rattle.case_tree.proofs.finish.imposing_each.Given as goal

abbrev pub invariant-loop-i : goal.invariant-loop-i
invariant-loop-i l = l.kids ++ map (imposing l.task.chain l.task.nonzero) (drop l.i l.fs) ≡ map (imposing l.task.chain l.task.nonzero) l.fs
