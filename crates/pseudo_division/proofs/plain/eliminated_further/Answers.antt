-- Each turn is one of the definition.
use Rattle.std.proofs.Common.{◌≡◌, Option, Some, None, IfSome, option_map, sym, ap, subst, ◌∙◌}
use Rattle.mono_words.specs.declared.mono.TheConstants.{VARS}
use Rattle.polynomials.specs.Polynomials.{Polynomial, IsPolynomial}
use Rattle.division_rules.specs.Rows.{plain}
use Rattle.division_rules.specs.Within.{elimination_within}
use Rattle.pseudo_division.specs.FieldOperations.{operations}
use Rattle.pseudo_division.proofs.TurnsWithin.{sparse_remainder_by_within-stop, sparse_remainder_by_within-turn}
use Rattle.pseudo_division.proofs.plain.eliminated_further.Goals as goal

pub returns-then-is_reduced-clause-value : goal.returns-then-is_reduced-clause-value
returns-then-is_reduced-clause-value c = sym (sparse_remainder_by_within-stop (operations c.args.w.now.field) c.args.w.now.width c.args.v (plain c.args.g.now) (plain c.loop.h) c.args.count c.loop.counter c.loop-test.true (sym c.if-is_reduced.ensures)) ∙ c.loop.invariant.0

pub returns-in-None-clause-value : goal.returns-in-None-clause-value
returns-in-None-clause-value c =
    let none : None ≡ elimination_within (operations c.args.w.now.field) c.args.w.now.width c.args.v (plain c.loop.h) (plain c.args.g.now) = ap (option_map plain) (sym c.in-None.is) ∙ c.in_ok-eliminated.ensures.value in
    sym (sparse_remainder_by_within-turn (operations c.args.w.now.field) c.args.w.now.width c.args.v (plain c.args.g.now) (plain c.loop.h) c.args.count c.loop.counter c.loop-test.true None (sym c.if-is_reduced.ensures) none) ∙ c.loop.invariant.0

pub loop-preserved : goal.loop-preserved
loop-preserved c =
    let some : Some (plain c.in-Some.next) ≡ elimination_within (operations c.args.w.now.field) c.args.w.now.width c.args.v (plain c.loop.h) (plain c.args.g.now) = ap (option_map plain) (sym c.in-Some.is) ∙ c.in_ok-eliminated.ensures.value in (
      sym (sparse_remainder_by_within-turn (operations c.args.w.now.field) c.args.w.now.width c.args.v (plain c.args.g.now) (plain c.loop.h) c.args.count c.loop.counter c.loop-test.true (Some (plain c.in-Some.next)) (sym c.if-is_reduced.ensures) some) ∙ c.loop.invariant.0,
      subst (λ (r : Option Polynomial). IfSome r (IsPolynomial c.args.w.now.field VARS)) c.in-Some.is c.in_ok-eliminated.ensures.over,
    )
