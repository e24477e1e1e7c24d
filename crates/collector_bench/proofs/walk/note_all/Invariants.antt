-- The events that are left are those of the tree.
use Rattle.std.proofs.Common.{length}
use Rattle.std.specs.List.{AllByRecursion}
use Rattle.split_paths.specs.Key.{IsTrueEvent}
use Rattle.collector.specs.Notes.{IsCollector}
use Rattle.collector_bench.proofs.walk.note_all.Given as goal

abbrev pub invariant-loop-event : goal.invariant-loop-event
invariant-loop-event g l = record {
  walk : IsCollector g.N.Named.events l.collector;
  events : AllByRecursion (IsTrueEvent g.N.Named.events) l.events;
}

abbrev pub decreases-loop-event : goal.decreases-loop-event
decreases-loop-event g l = length l.events
