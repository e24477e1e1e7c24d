-- The events that are left are those of the tree.
use Rattle.std.proofs.Common.{All}
use Rattle.split_paths.specs.Key.{IsTrueEvent}
use Rattle.collector.specs.Notes.{IsCollector}
use Rattle.collector.proofs.tests.walk.Given as goal

abbrev pub invariant-loop-k : goal.invariant-loop-k
invariant-loop-k g l = record {
  walk : IsCollector g.N.Named.events l.collector;
  events : All (IsTrueEvent g.N.Named.events) l.events.items;
}
