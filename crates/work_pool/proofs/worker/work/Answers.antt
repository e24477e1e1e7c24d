use Rattle.std.proofs.Common.{◌∙◌}
use Rattle.work_pool.proofs.Moved.{works_on, works_at, works_then}
use Rattle.work_pool.proofs.worker.work.Goals as goal

pub loop-preserved : goal.loop-preserved
loop-preserved g c = record {
  desk = works_on _ _ _ _ _ c.in-Ok.ensures;
  hub = works_at _ _ _ _ _ c.in-Ok.ensures ∙ c.loop.invariant.hub;
  works = works_then _ _ _ _ _ _ c.loop.invariant.works c.in-Ok.ensures;
}
