-- A reading means the trees that its tokens spell, and the tokens of a tree lead to its value.
use Rattle.system_text.proofs.ReadSums.{spelled_sums_are_read}
use Rattle.system_text.proofs.laws.spelled_sums_are_read.Goals as goal

pub returns : goal.returns
returns c = spelled_sums_are_read
