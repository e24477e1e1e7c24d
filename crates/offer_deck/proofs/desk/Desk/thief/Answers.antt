use Rattle.split_paths.specs.Key.{IsTrueOffer}
use Rattle.offer_deck.proofs.Deals.{makes}
use Rattle.offer_deck.proofs.desk.Desk.thief.Goals as goal

pub another-pass-requires : goal.another-pass-requires
another-pass-requires g c = makes (IsTrueOffer g.N.Named.offers) _ _ c.self.invariant.5
