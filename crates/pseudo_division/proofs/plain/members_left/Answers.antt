-- What is reduced by a member stays.
use Rattle.std.proofs.Common.{◌≡◌, ◌<◌, ◌≤◌, ◌-◌, true, length, sym, ap, ◌∙◌, subst, arith}
use Rattle.std.proofs.Math.ListN.{drop_of_length-le}
use Rattle.mono_words.specs.declared.mono.TheConstants.{VARS}
use Rattle.polynomials.specs.Views.{main_var}
use Rattle.division_rules.specs.Lists.{variable_or_zero}
use Rattle.division_rules.specs.Rows.{plain, plains, is_reduced_by}
use Rattle.division_rules.specs.Within.{reduction_within}
use Rattle.division_rules.proofs.Up.{plains_canonical}
use Rattle.pseudo_division.specs.FieldOperations.{operations}
use Rattle.pseudo_division.proofs.ChainTurns.{variable_at, reduction_within-turn}
use Rattle.pseudo_division.proofs.PlainRows.{plains-at, length-plains, reduced_stays}
use Rattle.pseudo_division.proofs.plain.members_left.Goals as goal

pub loop-i-init : goal.loop-i-init
loop-i-init c =
    let count = c.count-i.ensures in
    let same = length-plains c.args.by.now in
    let all : length (plains c.args.by.now) ≤ c.count-i.result = omega arith in
    (ap (λ chain. reduction_within (operations c.args.w.now.field) c.args.w.now.width chain (plain c.args.f.now)) (drop_of_length-le (plains c.args.by.now) all), omega arith)

pub is_reduced-requires : goal.is_reduced-requires
is_reduced-requires c = subst (λ v. v < VARS) (sym c.main_variable.ensures) (variable_at c.args.w.now.field VARS (plains c.args.by.now) (c.loop-i.i - 1) (plain c.at-t.result.now) (plains_canonical c.args.w.now.field VARS c.args.by.now c.requires.chain) c.requires.triangular (plains-at c.args.by.now (c.loop-i.i - 1) c.at-t.result.now c.at-t.ensures))

pub loop-i-preserved : goal.loop-i-preserved
loop-i-preserved c =
    let reduced : is_reduced_by (operations c.args.w.now.field) (variable_or_zero (main_var c.at-t.result.now)) (plain c.at-t.result.now) (plain c.args.f.now) ≡ true = sym (c.if-not-is_reduced.ensures ∙ ap (λ v. is_reduced_by (operations c.args.w.now.field) v (plain c.at-t.result.now) (plain c.args.f.now)) c.main_variable.ensures) in (
      reduction_within-turn (operations c.args.w.now.field) c.args.w.now.width (plain c.args.f.now) (plains c.args.by.now) c.loop-i.i (plain c.at-t.result.now) (plain c.args.f.now) c.loop-i-test.true (plains-at c.args.by.now (c.loop-i.i - 1) c.at-t.result.now c.at-t.ensures) c.loop-i.invariant.0
          ∙ reduced_stays (operations c.args.w.now.field) c.args.w.now.width (variable_or_zero (main_var c.at-t.result.now)) (plain c.args.f.now) (plain c.at-t.result.now) reduced,
      (let most = c.loop-i.invariant.1 in omega arith),
    )
