use Rattle.std.proofs.Common.{◌≡◌, [], ◌∷◌, subst, sym, ◌∙◌, ap, List}
use Rattle.std.specs.List.{AllByRecursion}
use Rattle.split_paths.specs.Key.{IsTrueOffer, IsTrueEvent}
use Rattle.split_paths.specs.Places.{Place}
use Rattle.split_paths.specs.Tree.{events_of, events_to_come}
use Rattle.generators.specs.Turns.{AreLawful}
use Rattle.work_pool.specs.Noting.{AreNoted}
use Rattle.work_pool.proofs.Covered.{all_front, the_last, flat_last, flat_one, lawful_waiting, true_to_come}
use Rattle.work_pool.proofs.Noted.{keeps_then, leads_last}
use Rattle.work_pool.proofs.run.run_offers.Goals as goal

pub run_generator-requires-clause-lawful : goal.run_generator-requires-clause-lawful
run_generator-requires-clause-lawful g c =
    subst (λ (w : List (Place _)). AreLawful (g.X.Splitter.lawful_task c.args.splitter.now) w) (sym c.in_ok-generator.ensures)
    (lawful_waiting (g.X.Splitter.step c.args.splitter.now) _ _ _ (c.in-Some.offer ∷ []) c.requires.key
    (the_last (IsTrueOffer g.N.Named.offers) _ _ _ c.loop-offer.invariant.known c.in-Some.ensures.item, tt))

pub run_generator-requires-clause-events : goal.run_generator-requires-clause-events
run_generator-requires-clause-events g c =
    subst (λ (w : List (Place _)). AllByRecursion (IsTrueEvent g.N.Named.events) (events_to_come (g.X.Splitter.step c.args.splitter.now) w)) (sym c.in_ok-generator.ensures)
    (true_to_come (g.X.Splitter.step c.args.splitter.now) _ _ _ (c.in-Some.offer ∷ []) c.requires.key
    (the_last (IsTrueOffer g.N.Named.offers) _ _ _ c.loop-offer.invariant.known c.in-Some.ensures.item, tt))

pub loop-offer-preserved : goal.loop-offer-preserved
loop-offer-preserved g c = record {
  walk = c.run_generator.ensures.walk;
  keeps = keeps_then _ _ _ _ c.loop-offer.invariant.keeps c.run_generator.ensures.keeps;
  known = all_front (IsTrueOffer g.N.Named.offers) _ _ _ c.loop-offer.invariant.known c.in-Some.ensures.item;
  leads = leads_last _ _ _ _ _ _ _ c.loop-offer.invariant.leads
      (flat_last (events_of (g.X.Splitter.step c.args.splitter.now)) _ _ _ c.in-Some.ensures.item)
      c.run_generator.ensures.keeps
      (subst (λ xs. AreNoted g.N.Named.events c.run_generator.new.collector xs)
      (flat_one (events_of (g.X.Splitter.step c.args.splitter.now)) _ _ c.in_ok-generator.ensures) c.in_ok-run_generator.ensures.noted);
}
