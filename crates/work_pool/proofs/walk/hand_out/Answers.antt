use Rattle.collector.specs.Notes.{to_give}
use Rattle.work_pool.proofs.Handing.{hands_next, hands_failed, may_next, still_noted}
use Rattle.work_pool.proofs.walk.hand_out.Goals as goal

pub loop-path-preserved : goal.loop-path-preserved
loop-path-preserved g c = record {
  walk = c.advance.ensures.walk;
  noted = still_noted _ _ _ _ c.advance.ensures.notes c.loop-path.invariant.noted;
  may = may_next g.K.Taker.may _ _ _ _ _ _ c.loop-path.invariant.may c.in-Item.ensures.items.0 c.in-Ok.ensures.keeps;
  hands = hands_next g.K.Taker.takes g.K.Taker.fails _ _ _ _ _ _ _ _ c.loop-path.invariant.hands c.in-Item.ensures.items.0 c.in-Ok.ensures.took;
}

pub returns-in-Err-clause-cut : goal.returns-in-Err-clause-cut
returns-in-Err-clause-cut g c =
    hands_failed g.K.Taker.takes g.K.Taker.fails _ _ _ _ _ _ _ _ _ c.loop-path.invariant.hands c.in-Item.ensures.items.0 c.in-Err.ensures.failed
