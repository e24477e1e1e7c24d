-- What is said of a reduction follows from what it is.
use Rattle.mono_words.specs.declared.mono.TheConstants.{VARS}
use Rattle.sparse_poly.proofs.SortedTerms.{IfOk-implied}
use Rattle.pseudo_division.proofs.PlainRows.{plain_reduced}
use Rattle.pseudo_division.proofs.plain.reduce.Goals as goal

pub returns-clause-reduced : goal.returns-clause-reduced
returns-clause-reduced c =
    IfOk-implied _ _ c.reduced.result
    (λ r. plain_reduced c.args.w.field VARS c.args.w.width c.facts.ensures.prime c.args.by.now c.args.f.now r c.requires.chain c.requires.over c.requires.triangular)
    c.reduced.ensures.value
