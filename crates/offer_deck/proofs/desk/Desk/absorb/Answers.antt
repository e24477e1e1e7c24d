use Rattle.std.proofs.Common.{ap}
use Rattle.split_paths.specs.Key.{IsTrueOffer}
use Rattle.offer_deck.proofs.Deals.{returns}
use Rattle.offer_deck.proofs.desk.Desk.absorb.Goals as goal

pub absorb-requires-clause-rule : goal.absorb-requires-clause-rule
absorb-requires-clause-rule g c =
    returns (IsTrueOffer g.N.Named.offers) _ _ _ _ c.self.invariant.5 (ap (λ v. v.owns) c.thief.invariant.2)
