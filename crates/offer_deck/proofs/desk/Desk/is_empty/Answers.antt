use Rattle.std.proofs.Common.{◌<◌, length, subst}
use Rattle.std.proofs.lemmas.Bool.{eqb-false, eqb-true}
use Rattle.split_paths.specs.Key.{IsTrueOffer}
use Rattle.offer_deck.specs.Desks.{DeskView, pass_of_desk}
use Rattle.offer_deck.specs.Views.{EmptyBeside}
use Rattle.offer_deck.proofs.Deals.{owner_is, empty_beside, none_counted, some_counted}
use Rattle.offer_deck.proofs.desk.Desk.is_empty.Goals as goal

pub len_as-requires : goal.len_as-requires
len_as-requires g c items views keeps at_pass = (views, _, keeps, at_pass)

-- the deck was empty beside what the pass knows
pub returns-clause-beside : goal.returns-clause-beside
returns-clause-beside g c none =
    subst (λ (desk : DeskView _). EmptyBeside g.N.Named.offers (pass_of_desk desk)) c.self.view_is
    (subst (λ v. EmptyBeside g.N.Named.offers v) (owner_is _ c.self.invariant.5)
    (empty_beside g.N.Named.offers _
    (none_counted (IsTrueOffer g.N.Named.offers) _ _ c.len_as.ensures.rule (eqb-true _ 0 none))))

pub returns-clause-left : goal.returns-clause-left
returns-clause-left g c more =
    subst (λ (desk : DeskView _). length desk.taken < length desk.made) c.self.view_is
    (some_counted (IsTrueOffer g.N.Named.offers) _ _ c.self.invariant.5 c.len_as.ensures.rule (eqb-false _ 0 more))
