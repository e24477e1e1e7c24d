use Rattle.std.proofs.Common.{◌≡◌, ◌≤◌, ◌+◌, length, map}
use Rattle.std.specs.List.{AllByRecursion}
use Rattle.split_paths.specs.Key.{IsTrueOffer}
use Rattle.offer_deck.specs.Views.{OwnerView, ThiefView}
use Rattle.work_pool.specs.Rows.{AreRows}
use Rattle.work_pool.specs.Closing.{Closing}
use Rattle.work_pool.proofs.close.close_all.Given as goal

abbrev pub invariant-loop-owner : goal.invariant-loop-owner
invariant-loop-owner g l = record {
  rows : AreRows (λ (t : ThiefView _). t.deck) 0 l.rows.items (map (λ (o : OwnerView _). o.deck) l.owners);
  count : length l.rows.items ≡ length l.fn.rows.items;
  within : length l.owners ≤ length l.fn.rows.items;
  thieves : AllByRecursion (λ (o : OwnerView _). o.thieves + 1 ≡ length l.fn.rows.items) l.owners;
  closing : Closing l.fn.owners l.fn.rows.items l.owners l.rows.items l.left;
  known : AllByRecursion (IsTrueOffer g.N.Named.offers) l.left;
}

abbrev pub decreases-loop-owner : goal.decreases-loop-owner
decreases-loop-owner g l = length l.owners
