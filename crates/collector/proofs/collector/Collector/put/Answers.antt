-- What is ahead waits at its path, and there is room for its numbers.
use Rattle.std.proofs.Common.{◌<◌, length, refl, ap, arith}
use Rattle.collector.proofs.Noting.{has_noted, keeps_room}
use Rattle.collector.proofs.collector.Collector.put.Goals as goal

pub returns-clause-ok : goal.returns-clause-ok
returns-clause-ok g c =
    has_noted g.N.Named.events _ _ _ c.parts_of-path.result.0 c.parts_of-path.result.1 c.args.e
    c.self.view_is c.requires.walk c.requires.ahead c.parts_of-path.ensures.event c.requires.event
    c.in_ok-insert.ensures.updates.0 c.make_room.ensures.path c.make_room.ensures.later refl

pub invariant_of-self-2 : goal.invariant_of-self-2
invariant_of-self-2 g c =
    let fits : length c.parts_of-path.result.0 < c.make_room.new.self.room =
    omega (arith, c.in_ok-make_room.ensures.ok, ap length c.items.ensures) in
    keeps_room c.parts_of-path.result.0 c.parts_of-path.result.1 _ _ _ _
    c.self.invariant c.in_ok-insert.ensures.updates.0 c.make_room.ensures.grows fits
