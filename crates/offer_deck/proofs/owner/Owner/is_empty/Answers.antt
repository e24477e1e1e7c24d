use Rattle.std.proofs.Common.{subst}
use Rattle.std.specs.Prelude.{IsTrue}
use Rattle.offer_deck.specs.Passes.{owner_pass}
use Rattle.offer_deck.specs.Views.{OwnerView, EmptyBeside, pass_of_owner}
use Rattle.offer_deck.proofs.owner.Owner.is_empty.Goals as goal

-- no thief was given back yet
pub returns-clause-beside : goal.returns-clause-beside
returns-clause-beside g c =
    subst (λ (owner : OwnerView _). IsTrue c.is_empty.result → EmptyBeside g.N.Named.offers (pass_of_owner owner)) c.self.view_is
    (subst
    (λ hands. IsTrue c.is_empty.result
    → EmptyBeside g.N.Named.offers (owner_pass c.self.inside.desk.made c.self.inside.desk.thieves hands c.self.inside.desk.taken))
    c.self.invariant c.is_empty.ensures.beside)
