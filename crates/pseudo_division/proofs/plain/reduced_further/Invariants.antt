-- The polynomial is the reduction by those that were gone through.
use Rattle.std.proofs.Common.{◌≡◌, ◌≤◌, Some, drop, length}
use Rattle.mono_words.specs.declared.mono.TheConstants.{VARS}
use Rattle.polynomials.specs.Polynomials.{Polynomial, IsPolynomial}
use Rattle.division_rules.specs.Rows.{Row, plain, plains}
use Rattle.division_rules.specs.Within.{reduction_within}
use Rattle.pseudo_division.specs.FieldOperations.{operations}
use Rattle.pseudo_division.proofs.plain.reduced_further.Given as goal

abbrev pub invariant-loop-i : goal.invariant-loop-i
invariant-loop-i l =
    ((g : Row Polynomial) → reduction_within (operations l.w.field) l.w.width (drop l.left (plains l.by)) g ≡ Some (plain l.fn.f) → reduction_within (operations l.w.field) l.w.width (drop l.i (plains l.by)) g ≡ Some (plain l.h))
    × IsPolynomial l.w.field VARS l.h
    × (l.i ≤ length l.by)

abbrev pub decreases-loop-i : goal.decreases-loop-i
decreases-loop-i l = l.i
