-- The entries are those of the multiple.
use Rattle.std.proofs.Common.{◌≡◌, Some, None, sym, ◌∙◌}
use Rattle.mono_words.specs.declared.mono.TheConstants.{VARS}
use Rattle.division_rules.specs.Within.{times_within, times_all_within}
use Rattle.division_rules.proofs.CanonicalRowsWithin.{IsPolynomialRow-times_row_within}
use Rattle.pseudo_division.specs.FieldOperations.{operations}
use Rattle.pseudo_division.proofs.RowParts.{row_without_first, row_without_cofactors, row_with_both, times_row_within-parts}
use Rattle.pseudo_division.proofs.elimination.times_row.Goals as goal

pub returns-in-None-clause-value : goal.returns-in-None-clause-value
returns-in-None-clause-value c =
    let none : times_within (operations c.args.w.now.field) c.args.w.now.width c.args.l.now c.f.inside.first ≡ None = let e = c.in_ok-times.ensures.value in let i = c.in-None.is in cc in
    row_without_first (operations c.args.w.now.field) c.args.w.now.width (times_within (operations c.args.w.now.field) c.args.w.now.width c.args.l.now c.f.inside.first) (times_all_within (operations c.args.w.now.field) c.args.w.now.width c.args.l.now c.f.inside.cofactors) none
    ∙ times_row_within-parts (operations c.args.w.now.field) c.args.w.now.width c.args.l.now c.args.f.now c.f.inside.first c.f.inside.cofactors c.f.view_is

pub returns-in-None-2-clause-value : goal.returns-in-None-2-clause-value
returns-in-None-2-clause-value c =
    let some : times_within (operations c.args.w.now.field) c.args.w.now.width c.args.l.now c.f.inside.first ≡ Some c.in-Some.first = let e = c.in_ok-times.ensures.value in let i = c.in-Some.is in cc in
    let none : times_all_within (operations c.args.w.now.field) c.args.w.now.width c.args.l.now c.f.inside.cofactors ≡ None = let e = c.in_ok-times_all-in-Some.ensures.value in let i = c.in-None-2.is in cc in
    row_without_cofactors (operations c.args.w.now.field) c.args.w.now.width (times_within (operations c.args.w.now.field) c.args.w.now.width c.args.l.now c.f.inside.first) (times_all_within (operations c.args.w.now.field) c.args.w.now.width c.args.l.now c.f.inside.cofactors) c.in-Some.first some none
    ∙ times_row_within-parts (operations c.args.w.now.field) c.args.w.now.width c.args.l.now c.args.f.now c.f.inside.first c.f.inside.cofactors c.f.view_is

pub returns-in-Some-2-clause-value : goal.returns-in-Some-2-clause-value
returns-in-Some-2-clause-value c =
    let some : times_within (operations c.args.w.now.field) c.args.w.now.width c.args.l.now c.f.inside.first ≡ Some c.in-Some.first = let e = c.in_ok-times.ensures.value in let i = c.in-Some.is in cc in
    let all : times_all_within (operations c.args.w.now.field) c.args.w.now.width c.args.l.now c.f.inside.cofactors ≡ Some c.in-Some-2.cofactors = let e = c.in_ok-times_all-in-Some.ensures.value in let i = c.in-Some-2.is in cc in
    row_with_both (operations c.args.w.now.field) c.args.w.now.width (times_within (operations c.args.w.now.field) c.args.w.now.width c.args.l.now c.f.inside.first) (times_all_within (operations c.args.w.now.field) c.args.w.now.width c.args.l.now c.f.inside.cofactors) c.in-Some.first c.in-Some-2.cofactors some all
    ∙ times_row_within-parts (operations c.args.w.now.field) c.args.w.now.width c.args.l.now c.args.f.now c.f.inside.first c.f.inside.cofactors c.f.view_is

pub returns-in-Some-2-clause-over : goal.returns-in-Some-2-clause-over
returns-in-Some-2-clause-over c =
    IsPolynomialRow-times_row_within c.args.w.now.field VARS c.facts.ensures.least c.args.w.now.width c.args.l.now c.args.f.now (record { first = c.in-Some.first; cofactors = c.in-Some-2.cofactors }) c.requires.factor c.requires.row (sym (returns-in-Some-2-clause-value c))
