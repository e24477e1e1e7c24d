-- What is said of a reduction follows from what it is.
use Rattle.mono_words.specs.declared.mono.TheConstants.{VARS}
use Rattle.division_rules.specs.Within.{reduction_within}
use Rattle.sparse_poly.proofs.SortedTerms.{IfOk-implied}
use Rattle.pseudo_division.specs.FieldOperations.{operations}
use Rattle.pseudo_division.proofs.CombinationResults.{IfSome-from, holds_reduction, less_than_members}
use Rattle.pseudo_division.proofs.reduction.reduce_rows.Goals as goal

pub returns-clause-combination : goal.returns-clause-combination
returns-clause-combination c =
    IfOk-implied _ _ c.reduced.result
    (λ r. IfSome-from _ r (reduction_within (operations c.args.w.field) c.args.w.width c.args.by.now c.args.f) (λ h e gs are each. holds_reduction c.args.w.field VARS c.facts.ensures.prime gs are c.args.w.width c.args.by.now c.args.f h c.requires.chain c.requires.row each.1 each.0 e))
    c.reduced.ensures.value

pub returns-clause-reduced : goal.returns-clause-reduced
returns-clause-reduced c =
    IfOk-implied _ _ c.reduced.result
    (λ r. IfSome-from _ r (reduction_within (operations c.args.w.field) c.args.w.width c.args.by.now c.args.f) (λ h. less_than_members c.args.w.field VARS c.facts.ensures.prime c.args.w.width c.args.by.now c.args.f h c.requires.chain c.requires.row c.requires.triangular))
    c.reduced.ensures.value
