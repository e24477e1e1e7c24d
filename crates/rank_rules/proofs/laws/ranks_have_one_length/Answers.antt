-- A number for each variable, and two more.
use Rattle.rank_rules.proofs.Lengths.{ranks_have_one_length}
use Rattle.rank_rules.proofs.laws.ranks_have_one_length.Goals as goal

pub returns : goal.returns
returns c = ranks_have_one_length
