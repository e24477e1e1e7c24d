use Rattle.std.proofs.Common.{◌∙◌, refl}
use Rattle.work_pool.proofs.Handing.{hands_itself, hands_took, hands_end, hands_cut, hands_starved}
use Rattle.work_pool.proofs.Leading.{hands_then}
use Rattle.work_pool.proofs.Moved.{works_itself, works_on, works_at, works_then}
use Rattle.work_pool.proofs.lead.lead.Goals as goal

pub loop-init : goal.loop-init
loop-init g c = record {
  desk = c.requires.desk;
  lane = c.requires.lane;
  works = works_itself _ _ _ _ c.requires.desk;
  hub = c.requires.hub;
  drain = (refl, refl, refl);
  walk = c.requires.walk;
  noted = c.requires.noted;
  may = c.requires.may;
  hands = hands_itself g.K.Taker.takes g.K.Taker.fails _ _;
}

pub returns-in-Ok-Some-clause-ready : goal.returns-in-Ok-Some-clause-ready
returns-in-Ok-Some-clause-ready g c =
    let done = rw c.in-Ok-Some.field-0-is at c.in-Ok-Some.ensures.ready in (
      hands_took g.K.Taker.takes g.K.Taker.fails _ _ _ _ _ c.loop.invariant.hands done.0,
      hands_end g.K.Taker.takes g.K.Taker.fails _ _ _ _ _ c.loop.invariant.hands done.1,
    )

pub returns-in-Err-clause-cut : goal.returns-in-Err-clause-cut
returns-in-Err-clause-cut g c =
    hands_cut g.K.Taker.takes g.K.Taker.fails _ _ _ _ _ c.in-Err.error c.loop.invariant.hands c.in-Err.ensures.cut

pub loop-preserved : goal.loop-preserved
loop-preserved g c =
    let drain = c.empty.ensures.drain in
    let on = rw c.in-Ok-None.field-0-is at c.in-Ok-None.ensures.ready in record {
      desk = works_on _ _ _ _ _ c.in-Ok.ensures;
      lane = works_at _ _ _ _ _ c.in-Ok.ensures ∙ c.loop.invariant.lane;
      works = works_then _ _ _ _ _ _ c.loop.invariant.works c.in-Ok.ensures;
      hub = drain.0 ∙ c.loop.invariant.hub;
      drain = (drain.0 ∙ c.loop.invariant.drain.0, drain.1 ∙ c.loop.invariant.drain.1, drain.2 ∙ c.loop.invariant.drain.2);
      walk = c.empty.ensures.walk;
      noted = c.in-Ok-None.ensures.noted;
      may = c.in-Ok-None.ensures.may;
      hands = hands_then g.K.Taker.takes g.K.Taker.fails _ _ _ _ _ _ on c.loop.invariant.hands;
    }

pub returns-in-Err-go_on-clause-cut : goal.returns-in-Err-go_on-clause-cut
returns-in-Err-go_on-clause-cut g c =
    let on = rw c.in-Ok-None.field-0-is at c.in-Ok-None.ensures.ready in
    hands_starved g.K.Taker.takes g.K.Taker.fails _ _ _ _
    (hands_then g.K.Taker.takes g.K.Taker.fails _ _ _ _ _ _ on c.loop.invariant.hands)
