-- By the queue: imposed children, or new heads.
use Rattle.rank_laws.proofs.FinishedRanks.{case_steps_lower_the_rank}
use Rattle.rank_laws.proofs.laws.case_steps_lower_the_rank.Goals as goal

pub returns : goal.returns
returns c = case_steps_lower_the_rank
