use Rattle.std.proofs.Common.{◌≡◌, length}
use Rattle.std.specs.List.{AllByRecursion}
use Rattle.split_paths.specs.Key.{IsTrueOffer}
use Rattle.split_paths.specs.Tree.{events_to_come}
use Rattle.collector.specs.Notes.{IsCollector, Keeps}
use Rattle.work_pool.specs.Noting.{Leads}
use Rattle.work_pool.proofs.run.run_offers.Given as goal

abbrev pub invariant-loop-offer : goal.invariant-loop-offer
invariant-loop-offer g l = record {
  walk : IsCollector g.N.Named.events l.collector;
  keeps : Keeps g.N.Named.events l.fn.collector l.collector;
  known : AllByRecursion (IsTrueOffer g.N.Named.offers) l.offers;
  leads : Leads g.N.Named.events l.collector (events_to_come (g.X.Splitter.step l.splitter) l.offers)
      (events_to_come (g.X.Splitter.step l.splitter) l.fn.offers);
}

abbrev pub decreases-loop-offer : goal.decreases-loop-offer
decreases-loop-offer g l = length l.offers
