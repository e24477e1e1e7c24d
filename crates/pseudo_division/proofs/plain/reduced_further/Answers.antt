-- Each turn takes the sparse remainder by one member, in its main variable.
use Rattle.std.proofs.Common.{◌≡◌, ◌-◌, Option, Some, None, IfSome, option_map, sym, ap, subst, ◌∙◌, arith}
use Rattle.mono_words.specs.declared.mono.TheConstants.{VARS}
use Rattle.polynomials.specs.Polynomials.{Polynomial, IsPolynomial}
use Rattle.polynomials.specs.Views.{main_var}
use Rattle.polynomials.proofs.PolynomialLists.{IsPolynomial-at}
use Rattle.division_rules.specs.Lists.{variable_or_zero}
use Rattle.division_rules.specs.Rows.{plain, plains}
use Rattle.division_rules.specs.Within.{sparse_remainder_within}
use Rattle.division_rules.proofs.Up.{plains_canonical}
use Rattle.pseudo_division.specs.FieldOperations.{operations}
use Rattle.pseudo_division.proofs.ChainTurns.{occurs_at, variable_at, reduction_within-turn, reduction_within-none}
use Rattle.pseudo_division.proofs.PlainRows.{plains-at}
use Rattle.pseudo_division.proofs.plain.reduced_further.Goals as goal

pub sparse_remainder-requires-clause-right : goal.sparse_remainder-requires-clause-right
sparse_remainder-requires-clause-right c = IsPolynomial-at c.args.w.now.field VARS c.args.by.now (c.loop-i.i - 1) c.at-t.result.now c.requires.chain c.at-t.ensures

pub sparse_remainder-requires-clause-variable : goal.sparse_remainder-requires-clause-variable
sparse_remainder-requires-clause-variable c = variable_at c.args.w.now.field VARS (plains c.args.by.now) (c.loop-i.i - 1) (plain c.at-t.result.now) (plains_canonical c.args.w.now.field VARS c.args.by.now c.requires.chain) c.requires.triangular (plains-at c.args.by.now (c.loop-i.i - 1) c.at-t.result.now c.at-t.ensures)

pub sparse_remainder-requires-clause-occurs : goal.sparse_remainder-requires-clause-occurs
sparse_remainder-requires-clause-occurs c = occurs_at (plains c.args.by.now) (c.loop-i.i - 1) (plain c.at-t.result.now) c.requires.triangular (plains-at c.args.by.now (c.loop-i.i - 1) c.at-t.result.now c.at-t.ensures)

pub returns-in-None-clause-value : goal.returns-in-None-clause-value
returns-in-None-clause-value c = λ g e.
    let none : sparse_remainder_within (operations c.args.w.now.field) c.args.w.now.width (variable_or_zero (main_var c.at-t.result.now)) (plain c.loop-i.h) (plain c.at-t.result.now) ≡ None = sym (ap (option_map plain) (sym c.in-None.is) ∙ c.in_ok-sparse_remainder.ensures.value) in
    sym (reduction_within-none (operations c.args.w.now.field) c.args.w.now.width g (plains c.args.by.now) (c.loop-i.i - 1)
    (reduction_within-turn (operations c.args.w.now.field) c.args.w.now.width g (plains c.args.by.now) c.loop-i.i (plain c.at-t.result.now) (plain c.loop-i.h) c.loop-i-test.true (plains-at c.args.by.now (c.loop-i.i - 1) c.at-t.result.now c.at-t.ensures) (c.loop-i.invariant.0 g e) ∙ none))

pub loop-i-preserved : goal.loop-i-preserved
loop-i-preserved c =
    let some : sparse_remainder_within (operations c.args.w.now.field) c.args.w.now.width (variable_or_zero (main_var c.at-t.result.now)) (plain c.loop-i.h) (plain c.at-t.result.now) ≡ Some (plain c.in-Some.next) = sym (ap (option_map plain) (sym c.in-Some.is) ∙ c.in_ok-sparse_remainder.ensures.value) in (
      (λ g e. reduction_within-turn (operations c.args.w.now.field) c.args.w.now.width g (plains c.args.by.now) c.loop-i.i (plain c.at-t.result.now) (plain c.loop-i.h) c.loop-i-test.true (plains-at c.args.by.now (c.loop-i.i - 1) c.at-t.result.now c.at-t.ensures) (c.loop-i.invariant.0 g e) ∙ some),
      subst (λ (r : Option Polynomial). IfSome r (IsPolynomial c.args.w.now.field VARS)) c.in-Some.is c.in_ok-sparse_remainder.ensures.over,
      (let most = c.loop-i.invariant.2 in omega arith),
    )
