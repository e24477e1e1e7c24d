-- The product of the two is the value of the zero row.
use Rattle.cofactor_laws.proofs.ZeroRows.{zero_row_splits_zeros}
use Rattle.cofactor_laws.proofs.laws.zero_row_splits_zeros.Goals as goal

pub returns : goal.returns
returns c = zero_row_splits_zeros
