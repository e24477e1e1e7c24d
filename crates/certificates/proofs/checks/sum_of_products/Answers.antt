-- Each turn makes one more product, or finds that it doesn't fit.
use Rattle.std.proofs.Common.{◌≡◌, ◌-◌, Some, None, sym, subst, ap, ◌∙◌, arith}
use Rattle.mono_words.specs.declared.mono.TheConstants.{VARS}
use Rattle.polynomials.specs.Polynomials.{IsPolynomial}
use Rattle.polynomials.proofs.PolynomialLists.{IsPolynomial-at}
use Rattle.division_rules.specs.Within.{times_within}
use Rattle.pseudo_division.specs.FieldOperations.{operations}
use Rattle.certificates.proofs.Combinations.{combination_wide, combination_more, combination_end}
use Rattle.certificates.proofs.checks.sum_of_products.Goals as goal

pub loop-i-init : goal.loop-i-init
loop-i-init c = (
  combination_end c.args.w.now.field VARS c.args.w.now.width c.args.cofactors.now c.args.list.now c.count-i.result c.count-i.ensures c.requires.pairs ∙ ap Some (sym c.zero-sum.ensures),
  subst (IsPolynomial c.args.w.now.field VARS) (sym c.zero-sum.ensures) tt,
  (let count = c.count-i.ensures in omega arith),
)

pub times-requires-clause-left : goal.times-requires-clause-left
times-requires-clause-left c = IsPolynomial-at c.args.w.now.field VARS c.args.cofactors.now (c.loop-i.i - 1) c.at.result.now c.requires.left c.at.ensures

pub times-requires-clause-right : goal.times-requires-clause-right
times-requires-clause-right c = IsPolynomial-at c.args.w.now.field VARS c.args.list.now (c.loop-i.i - 1) c.at-in-loop-i.result.now c.requires.right c.at-in-loop-i.ensures

pub returns-in-None-clause-value : goal.returns-in-None-clause-value
returns-in-None-clause-value c =
    let none : times_within (operations c.args.w.now.field) c.args.w.now.width c.at.result.now c.at-in-loop-i.result.now ≡ None = let e = c.in_ok-times.ensures.value in let i = c.in-None.is in cc in
    sym (combination_wide c.args.w.now.field VARS c.args.w.now.width c.args.cofactors.now c.args.list.now (c.loop-i.i - 1) c.at.result.now c.at-in-loop-i.result.now c.at.ensures c.at-in-loop-i.ensures none)

pub loop-i-preserved : goal.loop-i-preserved
loop-i-preserved c =
    let fits : times_within (operations c.args.w.now.field) c.args.w.now.width c.at.result.now c.at-in-loop-i.result.now ≡ Some c.in-Some.product = let e = c.in_ok-times.ensures.value in let i = c.in-Some.is in cc in (
      combination_more c.args.w.now.field VARS c.args.w.now.width c.args.cofactors.now c.args.list.now c.loop-i.i c.at.result.now c.at-in-loop-i.result.now c.in-Some.product c.loop-i.sum c.loop-i-test.true c.at.ensures c.at-in-loop-i.ensures fits c.loop-i.invariant.0 ∙ ap Some (sym c.in_ok-sum-in-Some.ensures.sum),
      c.in_ok-sum-in-Some.ensures.over,
      (let most = c.loop-i.invariant.2 in omega arith),
    )
