use Rattle.std.proofs.Common.{◌≡◌, length}
use Rattle.std.specs.List.{AllByRecursion}
use Rattle.split_paths.specs.Key.{IsTrueEvent}
use Rattle.collector.specs.Notes.{IsCollector, Keeps}
use Rattle.work_pool.specs.Noting.{Leads}
use Rattle.work_pool.proofs.run.note_all.Given as goal

abbrev pub invariant-loop-event : goal.invariant-loop-event
invariant-loop-event g l = record {
  walk : IsCollector g.N.Named.events l.collector;
  keeps : Keeps g.N.Named.events l.fn.collector l.collector;
  known : AllByRecursion (IsTrueEvent g.N.Named.events) l.events;
  leads : Leads g.N.Named.events l.collector l.events l.fn.events;
}

abbrev pub decreases-loop-event : goal.decreases-loop-event
decreases-loop-event g l = length l.events
