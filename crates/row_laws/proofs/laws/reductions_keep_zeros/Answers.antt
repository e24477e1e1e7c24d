-- The value is multiplied.
use Rattle.row_laws.proofs.ReductionValues.{reductions_keep_zeros}
use Rattle.row_laws.proofs.laws.reductions_keep_zeros.Goals as goal

pub returns : goal.returns
returns c = reductions_keep_zeros
