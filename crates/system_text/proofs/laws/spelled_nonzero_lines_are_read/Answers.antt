-- What is read of a nonzero line is what it spells.
use Rattle.system_text.proofs.ReadSums.{spelled_nonzero_lines_are_read}
use Rattle.system_text.proofs.laws.spelled_nonzero_lines_are_read.Goals as goal

pub returns : goal.returns
returns c = spelled_nonzero_lines_are_read
