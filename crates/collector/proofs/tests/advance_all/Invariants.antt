-- Each item that is handed out is one fewer to come.
use Rattle.std.proofs.Common.{length}
use Rattle.collector.specs.Notes.{IsCollector, to_give}
use Rattle.collector.proofs.tests.advance_all.Given as goal

abbrev pub invariant-loop-answer : goal.invariant-loop-answer
invariant-loop-answer g l = IsCollector g.N.Named.events l.collector

abbrev pub decreases-loop-answer : goal.decreases-loop-answer
decreases-loop-answer g l = length (to_give g.N.Named.events l.collector).chains
