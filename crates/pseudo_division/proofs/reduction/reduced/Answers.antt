-- Each turn takes the sparse remainder by one member, in its main variable.
use Rattle.std.proofs.Common.{◌≡◌, ◌-◌, Option, Some, None, IfSome, length, sym, subst, ◌∙◌, arith}
use Rattle.mono_words.specs.declared.mono.TheConstants.{VARS}
use Rattle.polynomials.specs.Polynomials.{Polynomial}
use Rattle.polynomials.specs.Views.{main_var}
use Rattle.division_rules.specs.Rows.{Row}
use Rattle.division_rules.specs.Lists.{variable_or_zero}
use Rattle.division_rules.specs.PolynomialRows.{IsPolynomialRow}
use Rattle.division_rules.specs.Within.{sparse_remainder_within}
use Rattle.pseudo_division.specs.FieldOperations.{operations}
use Rattle.pseudo_division.proofs.ChainTurns.{EachRow-at, occurs_at, variable_at, reduction_within-turn, reduction_within-none}
use Rattle.pseudo_division.proofs.reduction.reduced.Goals as goal

pub sparse_remainder-requires-clause-right : goal.sparse_remainder-requires-clause-right
sparse_remainder-requires-clause-right c = EachRow-at (IsPolynomialRow c.args.w.field VARS) c.args.by.now (c.loop-i.i - 1) c.at-t.result.now c.requires.chain c.at-t.ensures

pub sparse_remainder-requires-clause-variable : goal.sparse_remainder-requires-clause-variable
sparse_remainder-requires-clause-variable c = variable_at c.args.w.field VARS c.args.by.now (c.loop-i.i - 1) c.at-t.result.now c.requires.chain c.requires.triangular c.at-t.ensures

pub sparse_remainder-requires-clause-occurs : goal.sparse_remainder-requires-clause-occurs
sparse_remainder-requires-clause-occurs c = occurs_at c.args.by.now (c.loop-i.i - 1) c.at-t.result.now c.requires.triangular c.at-t.ensures

pub sparse_remainder-requires-clause-cofactors : goal.sparse_remainder-requires-clause-cofactors
sparse_remainder-requires-clause-cofactors c =
    c.loop-i.invariant.2 ∙ sym (EachRow-at (λ (t : Row Polynomial). length t.cofactors ≡ length c.args.f.cofactors) c.args.by.now (c.loop-i.i - 1) c.at-t.result.now c.requires.cofactors c.at-t.ensures)

pub returns-in-None-clause-value : goal.returns-in-None-clause-value
returns-in-None-clause-value c =
    let none : sparse_remainder_within (operations c.args.w.field) c.args.w.width (variable_or_zero (main_var c.at-t.result.now.first)) c.loop-i.row c.at-t.result.now ≡ None = let e = c.in_ok-sparse_remainder.ensures.value in let i = c.in-None.is in cc in
    sym (reduction_within-none (operations c.args.w.field) c.args.w.width c.args.f c.args.by.now (c.loop-i.i - 1)
    (reduction_within-turn (operations c.args.w.field) c.args.w.width c.args.f c.args.by.now c.loop-i.i c.at-t.result.now c.loop-i.row c.loop-i-test.true c.at-t.ensures c.loop-i.invariant.0 ∙ none))

pub loop-i-preserved : goal.loop-i-preserved
loop-i-preserved c =
    let some : sparse_remainder_within (operations c.args.w.field) c.args.w.width (variable_or_zero (main_var c.at-t.result.now.first)) c.loop-i.row c.at-t.result.now ≡ Some c.in-Some.next = let e = c.in_ok-sparse_remainder.ensures.value in let i = c.in-Some.is in cc in (
      reduction_within-turn (operations c.args.w.field) c.args.w.width c.args.f c.args.by.now c.loop-i.i c.at-t.result.now c.loop-i.row c.loop-i-test.true c.at-t.ensures c.loop-i.invariant.0 ∙ some,
      subst (λ (r : Option (Row Polynomial)). IfSome r (IsPolynomialRow c.args.w.field VARS)) c.in-Some.is c.in_ok-sparse_remainder.ensures.over,
      subst (λ (r : Option (Row Polynomial)). IfSome r (λ h. length h.cofactors ≡ length c.at-t.result.now.cofactors)) c.in-Some.is c.in_ok-sparse_remainder.ensures.cofactors
          ∙ EachRow-at (λ (t : Row Polynomial). length t.cofactors ≡ length c.args.f.cofactors) c.args.by.now (c.loop-i.i - 1) c.at-t.result.now c.requires.cofactors c.at-t.ensures,
      (let most = c.loop-i.invariant.3 in omega arith),
    )
