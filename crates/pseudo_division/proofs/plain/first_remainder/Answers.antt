-- The first elimination, and those that are left.
use Rattle.std.proofs.Common.{◌≡◌, ◌-◌, Option, Some, None, IfOk, option_map, ℕ, sym, ap, ap₂, ◌∙◌, subst}
use Rattle.polynomials.specs.Polynomials.{Polynomial}
use Rattle.division_rules.specs.Rows.{Row, plain}
use Rattle.division_rules.specs.Within.{elimination_within, sparse_remainder_within, sparse_remainder_by_within}
use Rattle.pseudo_division.specs.FieldOperations.{operations}
use Rattle.pseudo_division.proofs.PlainRows.{goes_on}
use Rattle.pseudo_division.proofs.plain.first_remainder.Goals as goal

pub returns-in-None-clause-value : goal.returns-in-None-clause-value
returns-in-None-clause-value c =
    let none : None ≡ elimination_within (operations c.args.w.now.field) c.args.w.now.width c.main_variable-v.result (plain c.args.f.now) (plain c.args.g.now) = ap (option_map plain) (sym c.in-None.is) ∙ c.in_ok-eliminated.ensures.value in
    subst (λ v. None ≡ sparse_remainder_within (operations c.args.w.now.field) c.args.w.now.width v (plain c.args.f.now) (plain c.args.g.now)) c.main_variable-v.ensures
    (goes_on (operations c.args.w.now.field) c.args.w.now.width c.main_variable-v.result (plain c.args.f.now) (plain c.args.g.now) None (sym c.if-is_reduced.ensures) none)

pub returns-in-Some-clause-value : goal.returns-in-Some-clause-value
returns-in-Some-clause-value c =
    let some : Some (plain c.in-Some.h) ≡ elimination_within (operations c.args.w.now.field) c.args.w.now.width c.main_variable-v.result (plain c.args.f.now) (plain c.args.g.now) = ap (option_map plain) (sym c.in-Some.is) ∙ c.in_ok-eliminated.ensures.value in
    subst (λ (x : Option (Row Polynomial)). IfOk c.eliminated_further.result (λ r. option_map plain r ≡ x))
    (ap₂ (λ (d e : ℕ). sparse_remainder_by_within (operations c.args.w.now.field) c.args.w.now.width c.main_variable-v.result (plain c.args.g.now) (d - e) (plain c.in-Some.h)) c.degree_in.ensures c.degree_in-2.ensures
    ∙ goes_on (operations c.args.w.now.field) c.args.w.now.width c.main_variable-v.result (plain c.args.f.now) (plain c.args.g.now) (Some (plain c.in-Some.h)) (sym c.if-is_reduced.ensures) some
    ∙ ap (λ v. sparse_remainder_within (operations c.args.w.now.field) c.args.w.now.width v (plain c.args.f.now) (plain c.args.g.now)) c.main_variable-v.ensures)
    c.eliminated_further.ensures.value
