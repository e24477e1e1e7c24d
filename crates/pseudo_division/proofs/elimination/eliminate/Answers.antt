-- The entries are those of the elimination, by the leads of the first entries.
use Rattle.std.proofs.Common.{◌≡◌, Some, None, sym, ◌∙◌}
use Rattle.mono_words.specs.declared.mono.TheConstants.{VARS}
use Rattle.division_rules.specs.Within.{cross_within, cross_all_within}
use Rattle.division_rules.proofs.CanonicalRowsWithin.{IsPolynomialRow-elimination_within}
use Rattle.pseudo_division.specs.FieldOperations.{operations}
use Rattle.pseudo_division.proofs.CombinationResults.{holds_elimination}
use Rattle.pseudo_division.proofs.RowParts.{row_without_first, row_without_cofactors, row_with_both, elimination_within-parts}
use Rattle.pseudo_division.proofs.elimination.eliminate.Goals as goal

pub returns-in-None-clause-value : goal.returns-in-None-clause-value
returns-in-None-clause-value c =
    let none : cross_within (operations c.args.w.field) c.args.w.width c.in_ok-l.l c.in_ok-m.m c.f.inside.first c.g.inside.first ≡ None = let e = c.in_ok-cross_leads.ensures.value in let i = c.in-None.is in cc in
    row_without_first (operations c.args.w.field) c.args.w.width (cross_within (operations c.args.w.field) c.args.w.width c.in_ok-l.l c.in_ok-m.m c.f.inside.first c.g.inside.first) (cross_all_within (operations c.args.w.field) c.args.w.width c.in_ok-l.l c.in_ok-m.m c.f.inside.cofactors c.g.inside.cofactors) none
    ∙ elimination_within-parts (operations c.args.w.field) c.args.w.width c.args.v c.args.f.now c.args.g.now c.f.inside.first c.g.inside.first c.f.inside.cofactors c.g.inside.cofactors c.in_ok-l.l c.in_ok-m.m c.f.view_is c.g.view_is c.in_ok-l.ensures.value c.in_ok-m.ensures.value

pub returns-in-None-2-clause-value : goal.returns-in-None-2-clause-value
returns-in-None-2-clause-value c =
    let some : cross_within (operations c.args.w.field) c.args.w.width c.in_ok-l.l c.in_ok-m.m c.f.inside.first c.g.inside.first ≡ Some c.in-Some.first = let e = c.in_ok-cross_leads.ensures.value in let i = c.in-Some.is in cc in
    let none : cross_all_within (operations c.args.w.field) c.args.w.width c.in_ok-l.l c.in_ok-m.m c.f.inside.cofactors c.g.inside.cofactors ≡ None = let e = c.in_ok-cross_all-in-Some.ensures.value in let i = c.in-None-2.is in cc in
    row_without_cofactors (operations c.args.w.field) c.args.w.width (cross_within (operations c.args.w.field) c.args.w.width c.in_ok-l.l c.in_ok-m.m c.f.inside.first c.g.inside.first) (cross_all_within (operations c.args.w.field) c.args.w.width c.in_ok-l.l c.in_ok-m.m c.f.inside.cofactors c.g.inside.cofactors) c.in-Some.first some none
    ∙ elimination_within-parts (operations c.args.w.field) c.args.w.width c.args.v c.args.f.now c.args.g.now c.f.inside.first c.g.inside.first c.f.inside.cofactors c.g.inside.cofactors c.in_ok-l.l c.in_ok-m.m c.f.view_is c.g.view_is c.in_ok-l.ensures.value c.in_ok-m.ensures.value

pub returns-clause-value : goal.returns-clause-value
returns-clause-value c =
    let some : cross_within (operations c.args.w.field) c.args.w.width c.in_ok-l.l c.in_ok-m.m c.f.inside.first c.g.inside.first ≡ Some c.in-Some.first = let e = c.in_ok-cross_leads.ensures.value in let i = c.in-Some.is in cc in
    let all : cross_all_within (operations c.args.w.field) c.args.w.width c.in_ok-l.l c.in_ok-m.m c.f.inside.cofactors c.g.inside.cofactors ≡ Some c.in-Some-2.cofactors = let e = c.in_ok-cross_all-in-Some.ensures.value in let i = c.in-Some-2.is in cc in
    row_with_both (operations c.args.w.field) c.args.w.width (cross_within (operations c.args.w.field) c.args.w.width c.in_ok-l.l c.in_ok-m.m c.f.inside.first c.g.inside.first) (cross_all_within (operations c.args.w.field) c.args.w.width c.in_ok-l.l c.in_ok-m.m c.f.inside.cofactors c.g.inside.cofactors) c.in-Some.first c.in-Some-2.cofactors some all
    ∙ elimination_within-parts (operations c.args.w.field) c.args.w.width c.args.v c.args.f.now c.args.g.now c.f.inside.first c.g.inside.first c.f.inside.cofactors c.g.inside.cofactors c.in_ok-l.l c.in_ok-m.m c.f.view_is c.g.view_is c.in_ok-l.ensures.value c.in_ok-m.ensures.value

pub returns-clause-over : goal.returns-clause-over
returns-clause-over c =
    IsPolynomialRow-elimination_within c.args.w.field VARS c.facts.ensures.least c.args.w.width c.args.v c.args.f.now c.args.g.now (record { first = c.in-Some.first; cofactors = c.in-Some-2.cofactors }) c.requires.left c.requires.right (sym (returns-clause-value c))

pub returns-clause-combination : goal.returns-clause-combination
returns-clause-combination c = λ gs are each. holds_elimination c.args.w.field VARS c.facts.ensures.prime gs are c.args.w.width c.args.v c.args.f.now c.args.g.now (record { first = c.in-Some.first; cofactors = c.in-Some-2.cofactors }) c.requires.left c.requires.right each.0 each.1.0 (sym (returns-clause-value c))
