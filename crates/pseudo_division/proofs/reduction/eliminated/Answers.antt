-- Each turn is one of the definition.
use Rattle.std.proofs.Common.{◌≡◌, false, Option, Some, None, IfSome, length, refl, sym, subst, ◌∙◌}
use Rattle.std.proofs.lemmas.Bool.{false_from_ne_true}
use Rattle.mono_words.specs.declared.mono.TheConstants.{VARS}
use Rattle.polynomials.specs.Polynomials.{Polynomial}
use Rattle.division_rules.specs.Rows.{Row, is_reduced_by}
use Rattle.division_rules.specs.PolynomialRows.{IsPolynomialRow}
use Rattle.division_rules.specs.Within.{elimination_within}
use Rattle.pseudo_division.specs.FieldOperations.{operations}
use Rattle.pseudo_division.proofs.TurnsWithin.{sparse_remainder_by_within-stop, sparse_remainder_by_within-turn}
use Rattle.pseudo_division.proofs.reduction.eliminated.Goals as goal

pub returns-then-is_reduced-clause-value : goal.returns-then-is_reduced-clause-value
returns-then-is_reduced-clause-value c =
    sym (sparse_remainder_by_within-stop (operations c.args.w.now.field) c.args.w.now.width c.args.v c.args.g.now c.loop.row c.args.count c.loop.counter c.loop-test.true (c.if-is_reduced.ensures.0 refl)) ∙ c.loop.invariant.0

pub returns-in-None-clause-value : goal.returns-in-None-clause-value
returns-in-None-clause-value c =
    let more : is_reduced_by (operations c.args.w.now.field) c.args.v c.args.g.now c.loop.row ≡ false = false_from_ne_true (is_reduced_by (operations c.args.w.now.field) c.args.v c.args.g.now c.loop.row) (λ e. let h = c.if-is_reduced.ensures.1 e in cc) in
    let none : None ≡ elimination_within (operations c.args.w.now.field) c.args.w.now.width c.args.v c.loop.row c.args.g.now = let e = c.in_ok-eliminate.ensures.value in let i = c.in-None.is in cc in
    sym (sparse_remainder_by_within-turn (operations c.args.w.now.field) c.args.w.now.width c.args.v c.args.g.now c.loop.row c.args.count c.loop.counter c.loop-test.true None more none) ∙ c.loop.invariant.0

pub loop-preserved : goal.loop-preserved
loop-preserved c =
    let more : is_reduced_by (operations c.args.w.now.field) c.args.v c.args.g.now c.loop.row ≡ false = false_from_ne_true (is_reduced_by (operations c.args.w.now.field) c.args.v c.args.g.now c.loop.row) (λ e. let h = c.if-is_reduced.ensures.1 e in cc) in
    let some : Some c.in-Some.next ≡ elimination_within (operations c.args.w.now.field) c.args.w.now.width c.args.v c.loop.row c.args.g.now = let e = c.in_ok-eliminate.ensures.value in let i = c.in-Some.is in cc in (
      sym (sparse_remainder_by_within-turn (operations c.args.w.now.field) c.args.w.now.width c.args.v c.args.g.now c.loop.row c.args.count c.loop.counter c.loop-test.true (Some c.in-Some.next) more some) ∙ c.loop.invariant.0,
      subst (λ (r : Option (Row Polynomial)). IfSome r (IsPolynomialRow c.args.w.now.field VARS)) c.in-Some.is c.in_ok-eliminate.ensures.over,
      subst (λ (r : Option (Row Polynomial)). IfSome r (λ h. length h.cofactors ≡ length c.loop.row.cofactors)) c.in-Some.is c.in_ok-eliminate.ensures.cofactors ∙ c.loop.invariant.2,
    )
