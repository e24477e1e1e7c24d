-- The turns to come give what all turns give.
use Rattle.std.proofs.Common.{◌≡◌, ◌-◌}
use Rattle.mono_words.specs.declared.mono.TheConstants.{VARS}
use Rattle.polynomials.specs.Polynomials.{IsPolynomial}
use Rattle.division_rules.specs.Rows.{plain}
use Rattle.division_rules.specs.Within.{sparse_remainder_by_within}
use Rattle.pseudo_division.specs.FieldOperations.{operations}
use Rattle.pseudo_division.proofs.plain.eliminated_further.Given as goal

abbrev pub invariant-loop : goal.invariant-loop
invariant-loop l =
    (sparse_remainder_by_within (operations l.w.field) l.w.width l.v (plain l.g) (l.count - l.counter) (plain l.h) ≡ sparse_remainder_by_within (operations l.w.field) l.w.width l.v (plain l.g) l.count (plain l.fn.f))
    × IsPolynomial l.w.field VARS l.h
