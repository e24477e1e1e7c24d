-- The root is a lawful task.
use Rattle.rank_laws.proofs.BranchEnds.{systems_need_some_steps}
use Rattle.rank_laws.proofs.laws.systems_need_some_steps.Goals as goal

pub returns : goal.returns
returns c = systems_need_some_steps
