-- No point is lost by imposing the first of the queue.
use Rattle.sparse_poly.proofs.SortedTerms.{IfOk-implied}
use Rattle.intersect.proofs.Covering.{made_covers}
use Rattle.intersect.proofs.step.impose.Goals as goal

pub returns-clause-cover : goal.returns-clause-cover
returns-clause-cover over c = IfOk-implied _ _ c.imposed.result (λ made is. made_covers c.args.w.field c.args.w.width _ c.args.task c.in-Some.f _ made c.facts.ensures.prime c.requires.over c.task.view_is c.facts-2.ensures.triangular c.in-Some.ensures.item is) c.imposed.ensures
