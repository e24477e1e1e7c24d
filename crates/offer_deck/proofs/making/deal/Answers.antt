use Rattle.std.proofs.Common.{ap, ◌∙◌, ◌++◌, ◌∷◌, []}
use Rattle.offer_deck.proofs.NewThieves.{one_more}
use Rattle.offer_deck.proofs.making.deal.Goals as goal

pub loop-preserved : goal.loop-preserved
loop-preserved g c =
    one_more _ _ _ _ _ _ c.loop.invariant c.in_ok-thief.ensures.desk
    (c.in_ok-push.ensures.items ∙ ap (λ thief. c.loop.all.items ++ thief ∷ []) c.in_ok-thief.ensures.thief)
