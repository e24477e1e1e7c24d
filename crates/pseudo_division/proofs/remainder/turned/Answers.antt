-- Each turn is one of the definition.
use Rattle.std.proofs.Common.{◌≡◌, Option, Some, None, IfSome, length, sym, subst, ◌∙◌}
use Rattle.mono_words.specs.declared.mono.TheConstants.{VARS}
use Rattle.polynomials.specs.Polynomials.{Polynomial}
use Rattle.division_rules.specs.Rows.{Row}
use Rattle.division_rules.specs.PolynomialRows.{IsPolynomialRow}
use Rattle.division_rules.specs.Within.{pseudo_turn_within}
use Rattle.pseudo_division.specs.FieldOperations.{operations}
use Rattle.pseudo_division.proofs.TurnsWithin.{pseudo_remainder_by_within-turn}
use Rattle.pseudo_division.proofs.remainder.turned.Goals as goal

pub returns-in-None-clause-value : goal.returns-in-None-clause-value
returns-in-None-clause-value c =
    let none : None ≡ pseudo_turn_within (operations c.args.w.now.field) c.args.w.now.width c.args.v c.args.g.now c.loop.row = let e = c.in_ok-turn.ensures.value in let i = c.in-None.is in cc in
    sym (pseudo_remainder_by_within-turn (operations c.args.w.now.field) c.args.w.now.width c.args.v c.args.g.now c.loop.row c.args.count c.loop.counter c.loop-test.true None none) ∙ c.loop.invariant.0

pub loop-preserved : goal.loop-preserved
loop-preserved c =
    let some : Some c.in-Some.next ≡ pseudo_turn_within (operations c.args.w.now.field) c.args.w.now.width c.args.v c.args.g.now c.loop.row = let e = c.in_ok-turn.ensures.value in let i = c.in-Some.is in cc in (
      sym (pseudo_remainder_by_within-turn (operations c.args.w.now.field) c.args.w.now.width c.args.v c.args.g.now c.loop.row c.args.count c.loop.counter c.loop-test.true (Some c.in-Some.next) some) ∙ c.loop.invariant.0,
      subst (λ (r : Option (Row Polynomial)). IfSome r (IsPolynomialRow c.args.w.now.field VARS)) c.in-Some.is c.in_ok-turn.ensures.over,
      subst (λ (r : Option (Row Polynomial)). IfSome r (λ h. length h.cofactors ≡ length c.loop.row.cofactors)) c.in-Some.is c.in_ok-turn.ensures.cofactors ∙ c.loop.invariant.2,
    )
