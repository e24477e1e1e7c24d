use Rattle.split_paths.specs.Key.{IsTrueOffer}
use Rattle.offer_deck.proofs.Deals.{offers}
use Rattle.offer_deck.proofs.desk.Desk.offer.Goals as goal

pub push_as-requires-clause-pushes : goal.push_as-requires-clause-pushes
push_as-requires-clause-pushes g c = offers (IsTrueOffer g.N.Named.offers) _ _ _ c.self.invariant.5 c.requires
