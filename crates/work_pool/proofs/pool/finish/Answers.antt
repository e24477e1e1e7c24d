use Rattle.work_pool.proofs.Handing.{hands_starved}
use Rattle.work_pool.proofs.Leading.{ended_on}
use Rattle.work_pool.proofs.pool.finish.Goals as goal

pub returns-in-Err : goal.returns-in-Err
returns-in-Err g c first whole ready cut = rw c.in-Err.is at cut

pub returns-in-Ok-Some : goal.returns-in-Ok-Some
returns-in-Ok-Some g c first whole ready cut = rw (c.in-Ok-Some.is, c.in-Ok-Some.field-0-is) at ready

pub returns-in-Ok : goal.returns-in-Ok
returns-in-Ok g c first whole ready cut =
    let on = rw (c.in-Ok-None.is, c.in-Ok-None.field-0-is) at ready in
    ended_on g.K.Taker.takes g.K.Taker.fails _ _ _ _ _ c.conclude.result on c.conclude.ensures.took c.conclude.ensures.end c.conclude.ensures.cut

pub returns-in-Err-homes : goal.returns-in-Err-homes
returns-in-Err-homes g c first whole ready cut =
    let on = rw (c.in-Ok-None.is, c.in-Ok-None.field-0-is) at ready in
    hands_starved g.K.Taker.takes g.K.Taker.fails _ _ _ _ on

pub conclude-requires-clause-homes : goal.conclude-requires-clause-homes
conclude-requires-clause-homes g c = rw (c.in-Ok-None.is, c.in-Ok.is) at c.requires.homes

pub conclude-requires-clause-drain : goal.conclude-requires-clause-drain
conclude-requires-clause-drain g c =
    (c.requires.hub, rw (c.in-Ok-None.is, c.in-Ok.is) at c.requires.made, c.requires.none_back)

pub conclude-requires-clause-noted : goal.conclude-requires-clause-noted
conclude-requires-clause-noted g c = rw c.in-Ok-None.is at c.requires.noted

pub conclude-requires-clause-may : goal.conclude-requires-clause-may
conclude-requires-clause-may g c = rw c.in-Ok-None.is at c.requires.may
