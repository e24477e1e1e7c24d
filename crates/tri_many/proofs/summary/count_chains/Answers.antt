-- The counter counts the chains of the answer, and their polynomials.
use Rattle.std.proofs.Common.{ap, refl}
use Rattle.tri_io.specs.Commands.{Options}
use Rattle.tri_many.proofs.Premises.{answer_with, chains_are_countable, root_is_lawful}
use Rattle.tri_many.proofs.Counted.{counted_all}
use Rattle.tri_many.proofs.summary.count_chains.Goals as goal

pub pool_run-requires-clause-lawful : goal.pool_run-requires-clause-lawful
pool_run-requires-clause-lawful g c lifetimes outlives = root_is_lawful _ c.args.root c.requires.root

pub pool_run-requires-clause-may : goal.pool_run-requires-clause-may
pool_run-requires-clause-may g c lifetimes outlives = chains_are_countable _ c.args.root c.requires.root c.command.inside.steps

pub returns-in-Ok-clause-counted : goal.returns-in-Ok-clause-counted
returns-in-Ok-clause-counted g c =
    let steps = ap (λ (o : Options). o.steps) c.command.view_is in
    counted_all _ _ (answer_with _ c.args.root c.requires.root _ _ steps) _ _ c.in-Ok.end c.in-Ok.ensures.took c.in-Ok.ensures.end refl refl
