-- The turns to come give what all turns give.
use Rattle.std.proofs.Common.{◌≡◌, ◌-◌, length}
use Rattle.mono_words.specs.declared.mono.TheConstants.{VARS}
use Rattle.division_rules.specs.PolynomialRows.{IsPolynomialRow}
use Rattle.division_rules.specs.Within.{pseudo_remainder_by_within}
use Rattle.pseudo_division.specs.FieldOperations.{operations}
use Rattle.pseudo_division.proofs.remainder.turned.Given as goal

abbrev pub invariant-loop : goal.invariant-loop
invariant-loop l =
    (pseudo_remainder_by_within (operations l.w.field) l.w.width l.v l.g (l.count - l.counter) l.row ≡ pseudo_remainder_by_within (operations l.w.field) l.w.width l.v l.g l.count l.fn.f)
    × IsPolynomialRow l.w.field VARS l.row
    × (length l.row.cofactors ≡ length l.g.cofactors)
