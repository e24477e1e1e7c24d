-- Nothing was handed out so far, and each turn passes an event.
use Rattle.std.proofs.Common.{length}
use Rattle.collector.specs.Moves.{StaysSame}
use Rattle.collector.specs.Notes.{events_ahead}
use Rattle.collector.proofs.collector.Collector.advance.Given as goal

abbrev pub invariant-loop-answer : goal.invariant-loop-answer
invariant-loop-answer g l = StaysSame g.N.Named.events l.fn.self l.self

abbrev pub decreases-loop-answer : goal.decreases-loop-answer
decreases-loop-answer g l = length (events_ahead g.N.Named.events l.self)
