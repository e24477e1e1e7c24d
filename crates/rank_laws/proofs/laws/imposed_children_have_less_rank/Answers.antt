-- Child by child.
use Rattle.rank_laws.proofs.ImposedRanks.{imposed_children_have_less_rank}
use Rattle.rank_laws.proofs.laws.imposed_children_have_less_rank.Goals as goal

pub returns : goal.returns
returns c = imposed_children_have_less_rank
