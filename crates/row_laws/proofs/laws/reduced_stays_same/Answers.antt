-- No elimination is left.
use Rattle.row_laws.proofs.ReducedRows.{reduced_stays_same}
use Rattle.row_laws.proofs.laws.reduced_stays_same.Goals as goal

pub returns : goal.returns
returns c = reduced_stays_same
