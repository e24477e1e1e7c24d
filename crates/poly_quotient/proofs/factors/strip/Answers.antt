-- Each member is passed over, or divided by as often as need be.
use Rattle.std.proofs.Common.{◌∙◌, ◌+◌, drop, refl, sym, ap, subst, arith}
use Rattle.std.proofs.lemmas.Bool.{false_from_ne_true}
use Rattle.mono_words.specs.declared.mono.TheConstants.{VARS}
use Rattle.polynomials.specs.Polynomials.{IsPolynomial}
use Rattle.polynomials.specs.Views.{is_constant}
use Rattle.polynomials.proofs.PolynomialLists.{IsPolynomial-at}
use Rattle.division_rules.specs.Quotients.{without_factors, factor_bound}
use Rattle.division_rules.proofs.Factors.{IsPolynomial-without_factor, without_factor_nonzero}
use Rattle.poly_quotient.proofs.Members.{without_factors_of_zero, member_passed, member_divided, members_end}
use Rattle.poly_quotient.proofs.factors.strip.Goals as goal
use Rattle.poly_quotient.proofs.factors.strip.Goals.{then-not-is_constant+in_ok-left-2, else-not-is_constant}

pub returns-then-is_zero-clause-value : goal.returns-then-is_zero-clause-value
returns-then-is_zero-clause-value c =
    let none = c.if-is_zero.ensures.0 refl in
    none ∙ (sym (without_factors_of_zero c.args.w.field c.args.w.width c.args.list.now) ∙ ap (without_factors c.args.w.field c.args.w.width c.args.list.now) (sym none ∙ c.in_ok-left.ensures))

pub loop-i-init : goal.loop-i-init
loop-i-init c = (
  (λ e. let f = c.if-is_zero.ensures.1 e in cc),
  subst (IsPolynomial c.args.w.field VARS) (sym c.in_ok-left.ensures) c.requires.left,
  ap (without_factors c.args.w.field c.args.w.width c.args.list.now) c.in_ok-left.ensures,
)

pub without-requires-clause-left : goal.without-requires-clause-left
without-requires-clause-left c = c.loop-i.invariant.1

pub without-requires-clause-right : goal.without-requires-clause-right
without-requires-clause-right c = IsPolynomial-at c.args.w.field VARS c.args.list.now c.loop-i.i c.at-b.result.now c.requires.members c.at-b.ensures

pub without-requires-clause-some : goal.without-requires-clause-some
without-requires-clause-some c = c.loop-i.invariant.0

pub loop-i-preserved : goal.loop-i-preserved
loop-i-preserved c =
    let ib = IsPolynomial-at c.args.w.field VARS c.args.list.now c.loop-i.i c.at-b.result.now c.requires.members c.at-b.ensures in
    elim c.if-not-is_constant.branch [
      | then-not-is_constant+in_ok-left-2 w ↦
          let varies = false_from_ne_true (is_constant c.at-b.result.now) (λ e. let f = w.if-not-is_constant.ensures.1 e in cc) in
          let next = w.left-is ∙ w.in_ok-left-2.ensures in (
            (λ e. without_factor_nonzero c.args.w.field VARS c.args.w.width c.facts.ensures.prime c.at-b.result.now c.loop-i.left (factor_bound c.loop-i.left) ib c.loop-i.invariant.1 c.loop-i.invariant.0 (sym next ∙ e)),
            subst (IsPolynomial c.args.w.field VARS) (sym next) (IsPolynomial-without_factor c.args.w.field VARS c.args.w.width c.facts.ensures.prime c.at-b.result.now c.loop-i.left (factor_bound c.loop-i.left) ib c.loop-i.invariant.1),
            member_divided c.args.w.field c.args.w.width c.args.list.now c.loop-i.i c.at-b.result.now c.loop-i.left _ c.at-b.ensures c.if-not-is_constant.left varies next c.loop-i.invariant.2,
          )
      | else-not-is_constant w ↦ (
        (λ e. c.loop-i.invariant.0 (sym w.left-is ∙ e)),
        subst (IsPolynomial c.args.w.field VARS) (sym w.left-is) c.loop-i.invariant.1,
        ap (without_factors c.args.w.field c.args.w.width (drop (c.loop-i.i + 1) c.args.list.now)) w.left-is ∙ member_passed c.args.w.field c.args.w.width c.args.list.now c.loop-i.i c.at-b.result.now c.loop-i.left _ c.at-b.ensures (w.if-not-is_constant.ensures.0 refl) c.loop-i.invariant.2,
      )
    ]

pub returns-clause-value : goal.returns-clause-value
returns-clause-value c = members_end c.args.w.field c.args.w.width c.args.list.now c.loop-i.i c.loop-i.left _ (let count = c.count-i-end.ensures in let end = c.loop-i-test.false in omega arith) c.loop-i.invariant.2

pub returns-clause-over : goal.returns-clause-over
returns-clause-over c = c.loop-i.invariant.1
