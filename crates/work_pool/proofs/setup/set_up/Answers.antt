-- What a run begins with is new: the hub's lanes, a deck for each worker, and their desks.
use Rattle.std.proofs.Common.{map, ◌∙◌}
use Rattle.std.proofs.lemmas.List.{length-map}
use Rattle.offer_deck.specs.Views.{OwnerView}
use Rattle.work_pool.proofs.setup.set_up.Goals as goal

pub returns : goal.returns
returns g c =
    let lanes = c.in-Ok.ensures.lanes in
    record {
      of_hub = lanes.of_hub;
      made = lanes.made;
      none_taken = lanes.none_taken;
      none_back = lanes.none_back;
      count = c.in-Ok-seat.ensures.count ∙ c.in-Ok-new_decks.ensures.count;
      decks = map (λ (o : OwnerView _). o.deck) c.in-Ok-new_decks.owners;
      deck_count = length-map c.in-Ok-new_decks.owners (λ (o : OwnerView _). o.deck) ∙ c.in-Ok-new_decks.ensures.count;
      seated = c.in-Ok-seat.ensures.desks;
    }
