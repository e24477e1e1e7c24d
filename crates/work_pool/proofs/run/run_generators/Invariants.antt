use Rattle.std.proofs.Common.{◌≡◌, length}
use Rattle.std.specs.List.{AllByRecursion, flat_map}
use Rattle.split_paths.specs.Key.{IsTrueOffer}
use Rattle.split_paths.specs.Tree.{events_to_come}
use Rattle.collector.specs.Notes.{IsCollector, Keeps}
use Rattle.work_pool.specs.Noting.{Leads}
use Rattle.work_pool.proofs.run.run_generators.Given as goal

abbrev pub invariant-loop-generator : goal.invariant-loop-generator
invariant-loop-generator g l = record {
  walk : IsCollector g.N.Named.events l.collector;
  keeps : Keeps g.N.Named.events l.fn.collector l.collector;
  known : AllByRecursion (AllByRecursion (IsTrueOffer g.N.Named.offers)) l.generators;
  leads : Leads g.N.Named.events l.collector (flat_map (events_to_come (g.X.Splitter.step l.splitter)) l.generators)
      (flat_map (events_to_come (g.X.Splitter.step l.splitter)) l.fn.generators);
}

abbrev pub decreases-loop-generator : goal.decreases-loop-generator
decreases-loop-generator g l = length l.generators
