-- What is said of a pseudo-remainder follows from what it is.
use Rattle.mono_words.specs.declared.mono.TheConstants.{VARS}
use Rattle.division_rules.specs.Within.{pseudo_remainder_within}
use Rattle.sparse_poly.proofs.SortedTerms.{IfOk-implied}
use Rattle.pseudo_division.specs.FieldOperations.{operations}
use Rattle.pseudo_division.proofs.CombinationResults.{IfSome-from, holds_pseudo_remainder}
use Rattle.pseudo_division.proofs.remainder.prem_full.Goals as goal

pub returns-clause-combination : goal.returns-clause-combination
returns-clause-combination c =
    IfOk-implied _ _ c.full_remainder.result
    (λ r. IfSome-from _ r (pseudo_remainder_within (operations c.args.w.field) c.args.w.width c.args.v c.args.f.now c.args.g.now) (λ h e gs are each. holds_pseudo_remainder c.args.w.field VARS c.facts.ensures.prime gs are c.args.w.width c.args.v c.args.f.now c.args.g.now h c.requires.left c.requires.right each.0 each.1.0 e))
    c.full_remainder.ensures.value
