-- The children so far, and those in the cases to come, are all of them.
use Rattle.std.proofs.Common.{◌≡◌, ◌++◌, map, length}
use Rattle.intersect.specs.Cases.{AreCasesOf}
use Rattle.intersect.specs.Children.{child_in}
use Rattle.intersect.proofs.children.children_of_copies.Given as goal

abbrev pub invariant-loop-case : goal.invariant-loop-case
invariant-loop-case l = record {
  cases : AreCasesOf (length l.head.leads) l.rest;
  kids : l.kids ++ map (child_in l.w.field l.head l.left) l.rest ≡ map (child_in l.w.field l.head l.left) l.fn.cases;
}

abbrev pub decreases-loop-case : goal.decreases-loop-case
decreases-loop-case l = length l.rest
