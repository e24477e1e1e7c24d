-- The first workers are still to be seated, and the others are.
use Rattle.std.proofs.Common.{◌≡◌, ◌+◌, ◌++◌, [], List, length, map}
use Rattle.std.specs.List.{AllByRecursion}
use Rattle.event_lanes.specs.Posts.{AreNumbered}
use Rattle.event_lanes.specs.Views.{LaneView, back_of}
use Rattle.offer_deck.specs.Views.{DeckId, OwnerView}
use Rattle.work_pool.specs.Seats.{AreDesks, IsNewOwner, Stock}
use Rattle.work_pool.proofs.seats.seat.Given as goal

abbrev pub invariant-loop-owner : goal.invariant-loop-owner
invariant-loop-owner g l = record {
  hub : AllByRecursion (λ (lane : LaneView _). lane.hub ≡ l.hub.name) l.lanes.items;
  numbered : AreNumbered 0 (map back_of l.lanes.items);
  empty : AllByRecursion (λ (lane : LaneView _). lane.put ≡ []) l.lanes.items;
  count : length l.lanes.items ≡ length l.owners;
  owners : AllByRecursion (IsNewOwner (length l.fn.owners)) l.owners;
  stock : Stock (length l.owners) 0 (map (λ (o : OwnerView _). o.deck) l.fn.owners) l.columns.items;
  cut : (later : List DeckId)
      × (map (λ (o : OwnerView _). o.deck) l.fn.owners ≡ map (λ (o : OwnerView _). o.deck) l.owners ++ later);
  desks : AreDesks l.hub.name (map (λ (o : OwnerView _). o.deck) l.fn.owners) (length l.owners) l.desks;
  total : length l.owners + length l.desks ≡ length l.fn.owners;
}

abbrev pub decreases-loop-owner : goal.decreases-loop-owner
decreases-loop-owner g l = length l.owners
