use Rattle.std.proofs.Common.{◌≡◌, inl, subst}
use Rattle.split_paths.specs.Key.{IsTrueOffer}
use Rattle.tally_laws.specs.Weights.{WeighTheSame}
use Rattle.offer_deck.specs.Desks.{DeskView, pass_of_desk}
use Rattle.offer_deck.specs.Views.{EmptyBeside}
use Rattle.offer_deck.proofs.Deals.{takes, owner_is, all_taken, all_taken_alone, empty_beside}
use Rattle.offer_deck.proofs.desk.Desk.recall.Goals as goal

pub pop_as-requires-clause-fifo : goal.pop_as-requires-clause-fifo
pop_as-requires-clause-fifo g c first = takes (IsTrueOffer g.N.Named.offers) _ _ 1 (inl c.self.invariant.5)

-- the deck was empty beside what the pass knows
pub returns-in_default-clause-beside : goal.returns-in_default-clause-beside
returns-in_default-clause-beside g c =
    subst (λ (desk : DeskView _). EmptyBeside g.N.Named.offers (pass_of_desk desk)) c.self.view_is
    (subst (λ v. EmptyBeside g.N.Named.offers v) (owner_is _ c.self.invariant.5)
    (empty_beside g.N.Named.offers _ c.in_default.ensures.rule.1))

pub returns-in_default-clause-all : goal.returns-in_default-clause-all
returns-in_default-clause-all g c =
    subst (λ (desk : DeskView _). desk.hands ≡ desk.thieves → WeighTheSame desk.taken desk.made) c.self.view_is
    (λ home. all_taken (IsTrueOffer g.N.Named.offers) _ c.self.invariant.5 home c.in_default.ensures.rule.1)

pub returns-in_default-clause-alone : goal.returns-in_default-clause-alone
returns-in_default-clause-alone g c =
    subst (λ (desk : DeskView _). desk.thieves ≡ 0 → WeighTheSame desk.taken desk.made) c.self.view_is
    (λ none. all_taken_alone (IsTrueOffer g.N.Named.offers) _ c.self.invariant.5 none c.in_default.ensures.rule.1)
