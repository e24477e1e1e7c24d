use Rattle.std.proofs.Common.{◌≡◌, ◌-◌, ◌++◌, length}
use Rattle.std.specs.List.{AllByRecursion, flat_map}
use Rattle.split_paths.specs.Key.{IsTrueOffer}
use Rattle.offer_deck.specs.Views.{ThiefView}
use Rattle.work_pool.proofs.close.close_deck.Given as goal

abbrev pub invariant-loop-offer : goal.invariant-loop-offer
invariant-loop-offer g l = record {
  made : l.sole.made ≡ l.fn.owner.made;
  taken : l.sole.taken ≡ (l.fn.owner.taken ++ flat_map (λ (t : ThiefView _). t.taken) l.fn.thieves.items) ++ l.left;
  known : AllByRecursion (IsTrueOffer g.N.Named.offers) l.left;
}

abbrev pub decreases-loop-offer : goal.decreases-loop-offer
decreases-loop-offer g l = length l.sole.made - length l.sole.taken
