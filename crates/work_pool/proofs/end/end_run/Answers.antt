use Rattle.std.proofs.Common.{◌≡◌, ◌+◌, length, map, sym, ◌∙◌, subst, ap, List, ◌++◌}
use Rattle.std.proofs.lemmas.List.{length-map}
use Rattle.std.specs.List.{AllByRecursion, flat_map}
use Rattle.split_paths.specs.declared.event.Event.{Event}
use Rattle.event_lanes.specs.declared.rule.Back.{Back}
use Rattle.work_pool.specs.Noting.{AreNoted}
use Rattle.work_pool.specs.Homes.{HomesView, AreHome}
use Rattle.offer_deck.specs.Views.{OwnerView}
use Rattle.event_lanes.specs.Views.{DrainView, back_of}
use Rattle.work_pool.proofs.AllNoted.{all_is_noted}
use Rattle.work_pool.proofs.Noted.{keeps_then, keeps_noted}
use Rattle.work_pool.proofs.end.end_run.Goals as goal

pub close_all-requires-clause-thieves : goal.close_all-requires-clause-thieves
close_all-requires-clause-thieves g c =
    let home = subst (λ (h : HomesView _ _). AreHome (g.X.Splitter.step c.args.splitter.now) g.N.Named.events g.N.Named.offers c.args.hub.now.name (map (λ (o : OwnerView _). o.deck) h.owners) g.N.Named.events h) (sym c.homes.view_is) c.requires.homes in
    subst (λ n. AllByRecursion (λ (o : OwnerView _). o.thieves + 1 ≡ n) c.homes.inside.owners)
    (length-map c.homes.inside.owners (λ (o : OwnerView _). o.deck) ∙ sym home.count) home.thieves

pub returns-clause-noted : goal.returns-clause-noted
returns-clause-noted g c =
    let home = subst (λ (h : HomesView _ _). AreHome (g.X.Splitter.step c.args.splitter.now) g.N.Named.events g.N.Named.offers c.args.hub.now.name (map (λ (o : OwnerView _). o.deck) h.owners) g.N.Named.events h) (sym c.homes.view_is) c.requires.homes in
    let events = g.N.Named.events in
    let last = c.run_offers-2.ensures.keeps in
    let after_generators = keeps_then _ _ _ _ c.run_offers.ensures.keeps last in
    let after_events = keeps_then _ _ _ _ c.run_generators.ensures.keeps after_generators in
    let after_rest = keeps_then _ _ _ _ c.note_all.ensures.keeps after_events in
    let backs = ap (λ (d : DrainView _). d.backs) c.finish-rest.ensures.back
    ∙ ap (λ (bs : List (Back (Event _))). bs ++ map back_of c.homes.inside.lanes.items) c.requires.drain.2 in
    all_is_noted (g.X.Splitter.step c.args.splitter.now) events g.N.Named.offers c.args.hub.now.name _
    (record {
      lanes = c.homes.inside.lanes.items;
      owners = c.homes.inside.owners;
      rows = c.homes.inside.rows.items;
      events = c.homes.inside.events;
      waiting = c.homes.inside.waiting;
      offers = c.homes.inside.offers;
    })
    c.in_ok-left.left c.run_offers-2.new.collector home c.in_ok-left.ensures.whole
    (keeps_noted events c.note_rest.new.collector c.run_offers-2.new.collector _ after_rest
    (subst (λ (bs : List (Back (Event _))). AreNoted events c.note_rest.new.collector (flat_map (λ (b : Back (Event _)). b.put) bs)) backs c.in_ok-note_rest.ensures.noted))
    (keeps_noted events c.note_all.new.collector c.run_offers-2.new.collector _ after_events c.in_ok-note_all.ensures.noted)
    (keeps_noted events c.run_generators.new.collector c.run_offers-2.new.collector _ after_generators c.in_ok-run_generators.ensures.noted)
    (keeps_noted events c.run_offers.new.collector c.run_offers-2.new.collector _ last c.in_ok-run_offers.ensures.noted)
    c.in_ok-run_offers-2.ensures.noted
