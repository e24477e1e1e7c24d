-- What is composed is a combination of the generators.
use Rattle.sparse_poly.proofs.SortedTerms.{IfOk-implied}
use Rattle.certificates.proofs.Laws.{composed_where}
use Rattle.certificates.proofs.composition.compose.Goals as goal

pub returns-clause-identity : goal.returns-clause-identity
returns-clause-identity c = IfOk-implied _ _ c.composed.result (λ r. composed_where c.args.w.field c.args.w.width c.facts.ensures.prime c.args.sofar.now c.args.next.now r) c.composed.ensures
