-- Their reductions come first, and change nothing.
use Rattle.row_laws.proofs.ReducedRows.{reduced_by_more}
use Rattle.row_laws.proofs.laws.reduced_by_more.Goals as goal

pub returns : goal.returns
returns c = reduced_by_more
