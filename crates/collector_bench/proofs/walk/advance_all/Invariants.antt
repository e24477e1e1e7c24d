-- Each item that is handed out is one fewer to come.
use Rattle.std.proofs.Common.{length}
use Rattle.collector.specs.Notes.{IsCollector, to_give}
use Rattle.collector_bench.proofs.walk.advance_all.Given as goal

abbrev pub invariant-loop-path : goal.invariant-loop-path
invariant-loop-path g l = IsCollector g.N.Named.events l.collector

abbrev pub decreases-loop-path : goal.decreases-loop-path
decreases-loop-path g l = length (to_give g.N.Named.events l.collector).chains
