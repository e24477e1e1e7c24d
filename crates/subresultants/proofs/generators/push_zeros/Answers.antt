-- One zero more.
use Rattle.std.proofs.Common.{[], ◌∷◌, ◌++◌, replicate, ap, ◌∙◌, append_assoc}
use Rattle.subresultants.proofs.GeneratorRows.{replicate_more}
use Rattle.subresultants.proofs.generators.push_zeros.Goals as goal

pub loop-preserved : goal.loop-preserved
loop-preserved c =
    c.in_ok-push.ensures.ok
    ∙ ap (λ x. c.loop.list ++ x ∷ []) c.zero.ensures
    ∙ ap (λ xs. xs ++ [] ∷ []) c.loop.invariant
    ∙ append_assoc c.args.list.now (replicate c.loop.counter []) ([] ∷ [])
    ∙ ap (λ xs. c.args.list.now ++ xs) (replicate_more c.loop.counter [])
