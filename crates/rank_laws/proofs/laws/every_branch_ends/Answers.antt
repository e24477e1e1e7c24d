-- By descent of ranks.
use Rattle.rank_laws.proofs.BranchEnds.{every_branch_ends}
use Rattle.rank_laws.proofs.laws.every_branch_ends.Goals as goal

pub returns : goal.returns
returns c = every_branch_ends
