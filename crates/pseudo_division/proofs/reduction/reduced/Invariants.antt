-- The row is the reduction by the rows that were gone through.
use Rattle.std.proofs.Common.{◌≡◌, ◌≤◌, Some, drop, length}
use Rattle.mono_words.specs.declared.mono.TheConstants.{VARS}
use Rattle.division_rules.specs.PolynomialRows.{IsPolynomialRow}
use Rattle.division_rules.specs.Within.{reduction_within}
use Rattle.pseudo_division.specs.FieldOperations.{operations}
use Rattle.pseudo_division.proofs.reduction.reduced.Given as goal

abbrev pub invariant-loop-i : goal.invariant-loop-i
invariant-loop-i l =
    (reduction_within (operations l.fn.w.field) l.fn.w.width (drop l.i l.by) l.fn.f ≡ Some l.row)
    × IsPolynomialRow l.fn.w.field VARS l.row
    × (length l.row.cofactors ≡ length l.fn.f.cofactors)
    × (l.i ≤ length l.by)

abbrev pub decreases-loop-i : goal.decreases-loop-i
decreases-loop-i l = l.i
