-- The members that were passed over eliminate nothing.
use Rattle.std.proofs.Common.{◌≡◌, ◌≤◌, Some, drop, length}
use Rattle.division_rules.specs.Rows.{plain, plains}
use Rattle.division_rules.specs.Within.{reduction_within}
use Rattle.pseudo_division.specs.FieldOperations.{operations}
use Rattle.pseudo_division.proofs.plain.members_left.Given as goal

abbrev pub invariant-loop-i : goal.invariant-loop-i
invariant-loop-i l =
    (reduction_within (operations l.w.field) l.w.width (drop l.i (plains l.by)) (plain l.f) ≡ Some (plain l.f))
    × (l.i ≤ length l.by)

abbrev pub decreases-loop-i : goal.decreases-loop-i
decreases-loop-i l = l.i
