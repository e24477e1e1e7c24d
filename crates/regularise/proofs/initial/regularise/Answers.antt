-- No point is lost, and certificates certify, by the laws of what becomes of an initial.
use Rattle.regularise.specs.Answers.{as_step}
use Rattle.sparse_poly.proofs.SortedTerms.{IfOk-implied}
use Rattle.regularise.proofs.Starts.{becomes_cover, becomes_certificate}
use Rattle.regularise.proofs.initial.regularise.Goals as goal

pub returns-clause-cover : goal.returns-clause-cover
returns-clause-cover c = IfOk-implied _ _ c.regularised.result (λ made is. becomes_cover c.args.w.field c.args.w.width c.args.v c.facts.ensures.prime c.args.chain.now c.args.nonzero.now c.requires.chain c.facts-2.ensures.triangular c.requires.main (as_step made) is) c.regularised.ensures

pub returns-clause-certificate : goal.returns-clause-certificate
returns-clause-certificate c = IfOk-implied _ _ c.regularised.result (λ made is. becomes_certificate c.args.w.field c.args.w.width c.args.v c.facts.ensures.prime c.args.chain.now c.args.nonzero.now c.requires.chain c.facts-2.ensures.triangular c.requires.main (as_step made) is) c.regularised.ensures
