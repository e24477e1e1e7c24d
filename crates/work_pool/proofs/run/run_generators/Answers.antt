use Rattle.std.proofs.Common.{◌≡◌}
use Rattle.std.specs.List.{AllByRecursion}
use Rattle.split_paths.specs.Key.{IsTrueOffer}
use Rattle.split_paths.specs.Tree.{events_to_come}
use Rattle.work_pool.proofs.Covered.{all_front, the_last, flat_last, lawful_waiting, true_to_come}
use Rattle.work_pool.proofs.Noted.{keeps_then, leads_last}
use Rattle.work_pool.proofs.run.run_generators.Goals as goal

pub run_generator-requires-clause-lawful : goal.run_generator-requires-clause-lawful
run_generator-requires-clause-lawful g c =
    lawful_waiting (g.X.Splitter.step c.args.splitter.now) _ _ _ _ c.requires.key
    (the_last (AllByRecursion (IsTrueOffer g.N.Named.offers)) _ _ _ c.loop-generator.invariant.known c.in-Some.ensures.item)

pub run_generator-requires-clause-events : goal.run_generator-requires-clause-events
run_generator-requires-clause-events g c =
    true_to_come (g.X.Splitter.step c.args.splitter.now) _ _ _ _ c.requires.key
    (the_last (AllByRecursion (IsTrueOffer g.N.Named.offers)) _ _ _ c.loop-generator.invariant.known c.in-Some.ensures.item)

pub loop-generator-preserved : goal.loop-generator-preserved
loop-generator-preserved g c = record {
  walk = c.run_generator.ensures.walk;
  keeps = keeps_then _ _ _ _ c.loop-generator.invariant.keeps c.run_generator.ensures.keeps;
  known = all_front (AllByRecursion (IsTrueOffer g.N.Named.offers)) _ _ _ c.loop-generator.invariant.known c.in-Some.ensures.item;
  leads = leads_last _ _ _ _ _ _ _ c.loop-generator.invariant.leads
      (flat_last (events_to_come (g.X.Splitter.step c.args.splitter.now)) _ _ _ c.in-Some.ensures.item)
      c.run_generator.ensures.keeps c.in_ok-run_generator.ensures.noted;
}
