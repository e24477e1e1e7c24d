-- The turns are those of the definition.
use Rattle.std.proofs.Common.{◌-◌, suc, ap, ap₂, ◌∙◌}
use Rattle.polynomials.specs.Views.{degree_in}
use Rattle.division_rules.specs.Rows.{plain}
use Rattle.division_rules.specs.Within.{sparse_remainder_by_within}
use Rattle.sparse_poly.proofs.SortedTerms.{IfOk-implied}
use Rattle.pseudo_division.specs.FieldOperations.{operations}
use Rattle.pseudo_division.proofs.plain.sparse_remainder.Goals as goal

pub returns-clause-value : goal.returns-clause-value
returns-clause-value c =
    IfOk-implied _ _ c.eliminated_further.result
    (λ r e. e ∙ ap₂ (λ v k. sparse_remainder_by_within (operations c.args.w.now.field) c.args.w.now.width v (plain c.args.g.now) k (plain c.args.f)) c.main_variable-v.ensures (c.count_turns-count.ensures ∙ ap (λ v. suc (degree_in v c.args.f - degree_in v c.args.g.now)) c.main_variable-v.ensures))
    c.eliminated_further.ensures.value
