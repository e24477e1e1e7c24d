-- The walk was that of the system's tree.
use Rattle.std.proofs.Common.{ap, refl, ◌∙◌}
use Rattle.tri_alone.proofs.Systems.{walked_ending}
use Rattle.tri_alone.proofs.ending.ending_of_cases.Goals as goal

pub returns : goal.returns
returns c =
    let steps = ap (λ o. o.steps) c.command.view_is in
    let made = ap (λ o. o.made) c.command.view_is in
    walked_ending c.args.command.now _ _ _ _ _ _ _ _ refl c.requires.width made c.root.ensures steps c.in_ok-root.ensures.task (c.walked.view_is ∙ c.in_ok-walked.ensures) c.status_of.ensures
