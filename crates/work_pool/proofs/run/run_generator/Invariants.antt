use Rattle.std.specs.List.{AllByRecursion}
use Rattle.split_paths.specs.Key.{IsTrueEvent}
use Rattle.split_paths.specs.Tree.{events_to_come}
use Rattle.generators.specs.Turns.{AreLawful, turns_to_come}
use Rattle.collector.specs.Notes.{IsCollector, Keeps}
use Rattle.work_pool.specs.Noting.{Leads}
use Rattle.work_pool.proofs.run.run_generator.Given as goal

abbrev pub invariant-loop-event : goal.invariant-loop-event
invariant-loop-event g l = record {
  walk : IsCollector g.N.Named.events l.collector;
  keeps : Keeps g.N.Named.events l.fn.collector l.collector;
  lawful : AreLawful (g.X.Splitter.lawful_task l.splitter) l.generator;
  known : AllByRecursion (IsTrueEvent g.N.Named.events) (events_to_come (g.X.Splitter.step l.splitter) l.generator);
  leads : Leads g.N.Named.events l.collector (events_to_come (g.X.Splitter.step l.splitter) l.generator)
      (events_to_come (g.X.Splitter.step l.splitter) l.fn.generator);
}

abbrev pub decreases-loop-event : goal.decreases-loop-event
decreases-loop-event g l = turns_to_come (g.X.Splitter.step l.splitter) l.generator
