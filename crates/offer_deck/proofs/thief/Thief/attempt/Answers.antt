use Rattle.std.proofs.Common.{inr, ap, subst}
use Rattle.split_paths.specs.Key.{IsTrueOffer}
use Rattle.offer_deck.specs.Views.{ThiefView, EmptyBeside, pass_of_thief}
use Rattle.offer_deck.proofs.Deals.{takes, empty_beside}
use Rattle.offer_deck.proofs.thief.Thief.attempt.Goals as goal

pub steal_as-requires-clause-takes : goal.steal_as-requires-clause-takes
steal_as-requires-clause-takes g c =
    takes (IsTrueOffer g.N.Named.offers) _ _ 1 (inr (ap (λ v. v.hands) c.self.invariant.2))

-- the deck was empty beside what the pass knows
pub returns-in-Empty-clause-beside : goal.returns-in-Empty-clause-beside
returns-in-Empty-clause-beside g c =
    subst (λ (thief : ThiefView _). EmptyBeside g.N.Named.offers (pass_of_thief thief)) c.self.view_is
    (subst (λ v. EmptyBeside g.N.Named.offers v) c.self.invariant.2
    (empty_beside g.N.Named.offers _ c.in-Empty.ensures.rule.1))
