-- What the test says is whether the certificate is one, by the law of the test.
use Rattle.sparse_poly.proofs.SortedTerms.{IfOk-implied}
use Rattle.certificates.proofs.Laws.{checked_decides}
use Rattle.certificates.proofs.checks.check.Goals as goal

pub returns-clause-decides : goal.returns-clause-decides
returns-clause-decides c = IfOk-implied _ _ c.checked.result (λ r. checked_decides c.args.w.field c.args.w.width c.args.chain.now c.args.certificate.now r c.requires.certificate) c.checked.ensures
