-- What was met and what is to come are the events that were to come.
use Rattle.std.proofs.Common.{◌≡◌, ◌++◌}
use Rattle.split_paths.specs.Tree.{events_to_come}
use Rattle.generators.specs.Turns.{AreLawful, turns_to_come}
use Rattle.collector_bench.proofs.tree.walk.Given as goal

abbrev pub invariant-loop-event : goal.invariant-loop-event
invariant-loop-event g l = record {
  lawful : AreLawful (g.X.Splitter.lawful_task l.splitter) l.generator;
  whole : l.events ++ events_to_come (g.X.Splitter.step l.splitter) l.generator
      ≡ events_to_come (g.X.Splitter.step l.splitter) l.initial.generator;
}

abbrev pub decreases-loop-event : goal.decreases-loop-event
decreases-loop-event g l = turns_to_come (g.X.Splitter.step l.splitter) l.generator
