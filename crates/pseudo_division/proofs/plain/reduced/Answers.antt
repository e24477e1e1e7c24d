-- The first member that eliminates, and then those before it.
use Rattle.std.proofs.Common.{◌≡◌, ◌-◌, Some, None, option_map, sym, ap, ◌∙◌, arith}
use Rattle.mono_words.specs.declared.mono.TheConstants.{VARS}
use Rattle.polynomials.specs.Views.{main_var}
use Rattle.polynomials.proofs.PolynomialLists.{IsPolynomial-at}
use Rattle.division_rules.specs.Lists.{variable_or_zero}
use Rattle.division_rules.specs.Rows.{plain, plains}
use Rattle.division_rules.specs.Within.{sparse_remainder_within}
use Rattle.division_rules.proofs.Up.{plains_canonical}
use Rattle.pseudo_division.specs.FieldOperations.{operations}
use Rattle.pseudo_division.proofs.ChainTurns.{occurs_at, variable_at, reduction_within-turn, reduction_within-none}
use Rattle.pseudo_division.proofs.PlainRows.{plains-at}
use Rattle.pseudo_division.proofs.plain.reduced.Goals as goal

pub first_remainder-requires-clause-right : goal.first_remainder-requires-clause-right
first_remainder-requires-clause-right c = IsPolynomial-at c.args.w.now.field VARS c.args.by.now (c.members_left-left.result - 1) c.at-t.result.now c.requires.chain c.at-t.ensures

pub first_remainder-requires-clause-variable : goal.first_remainder-requires-clause-variable
first_remainder-requires-clause-variable c = variable_at c.args.w.now.field VARS (plains c.args.by.now) (c.members_left-left.result - 1) (plain c.at-t.result.now) (plains_canonical c.args.w.now.field VARS c.args.by.now c.requires.chain) c.requires.triangular (plains-at c.args.by.now (c.members_left-left.result - 1) c.at-t.result.now c.at-t.ensures)

pub first_remainder-requires-clause-occurs : goal.first_remainder-requires-clause-occurs
first_remainder-requires-clause-occurs c = occurs_at (plains c.args.by.now) (c.members_left-left.result - 1) (plain c.at-t.result.now) c.requires.triangular (plains-at c.args.by.now (c.members_left-left.result - 1) c.at-t.result.now c.at-t.ensures)

pub returns-in-None-clause-value : goal.returns-in-None-clause-value
returns-in-None-clause-value c =
    let none : sparse_remainder_within (operations c.args.w.now.field) c.args.w.now.width (variable_or_zero (main_var c.at-t.result.now)) (plain c.args.f.now) (plain c.at-t.result.now) ≡ None = sym (ap (option_map plain) (sym c.in-None.is) ∙ c.in_ok-first_remainder.ensures.value) in
    sym (reduction_within-none (operations c.args.w.now.field) c.args.w.now.width (plain c.args.f.now) (plains c.args.by.now) (c.members_left-left.result - 1)
    (reduction_within-turn (operations c.args.w.now.field) c.args.w.now.width (plain c.args.f.now) (plains c.args.by.now) c.members_left-left.result (plain c.at-t.result.now) (plain c.args.f.now) (let some = c.if-left-eq0.false in omega arith) (plains-at c.args.by.now (c.members_left-left.result - 1) c.at-t.result.now c.at-t.ensures) c.members_left-left.ensures.same ∙ none))

pub returns-in-Some-clause-value : goal.returns-in-Some-clause-value
returns-in-Some-clause-value c =
    let some : sparse_remainder_within (operations c.args.w.now.field) c.args.w.now.width (variable_or_zero (main_var c.at-t.result.now)) (plain c.args.f.now) (plain c.at-t.result.now) ≡ Some (plain c.in-Some.h) = sym (ap (option_map plain) (sym c.in-Some.is) ∙ c.in_ok-first_remainder.ensures.value) in
    c.reduced_further.ensures.value (plain c.args.f.now)
    (reduction_within-turn (operations c.args.w.now.field) c.args.w.now.width (plain c.args.f.now) (plains c.args.by.now) c.members_left-left.result (plain c.at-t.result.now) (plain c.args.f.now) (let some = c.if-left-eq0.false in omega arith) (plains-at c.args.by.now (c.members_left-left.result - 1) c.at-t.result.now c.at-t.ensures) c.members_left-left.ensures.same ∙ some)
