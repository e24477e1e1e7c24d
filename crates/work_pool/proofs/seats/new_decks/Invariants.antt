-- So many decks were made.
use Rattle.std.proofs.Common.{◌≡◌, length, map}
use Rattle.std.specs.List.{AllByRecursion}
use Rattle.offer_deck.specs.Views.{OwnerView}
use Rattle.work_pool.specs.Seats.{IsNewOwner, Stock}
use Rattle.work_pool.proofs.seats.new_decks.Given as goal

abbrev pub invariant-loop : goal.invariant-loop
invariant-loop g l = record {
  count : length l.owners ≡ l.counter;
  owners : AllByRecursion (IsNewOwner l.workers) l.owners;
  stock : Stock l.workers 0 (map (λ (o : OwnerView _). o.deck) l.owners) l.columns.items;
}
