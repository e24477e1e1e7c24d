-- The law of the steps of all lawful tasks, at a system's.
use Rattle.case_tree.proofs.Ranks.{lowered}
use Rattle.case_tree.proofs.laws.steps_lower_the_rank.Goals as goal

pub returns : goal.returns
returns c = lowered
