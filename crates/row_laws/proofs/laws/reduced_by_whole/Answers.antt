-- A main variable that is lacking has the degree 0.
use Rattle.row_laws.proofs.Members.{reduced_by_whole}
use Rattle.row_laws.proofs.laws.reduced_by_whole.Goals as goal

pub returns : goal.returns
returns c = reduced_by_whole
