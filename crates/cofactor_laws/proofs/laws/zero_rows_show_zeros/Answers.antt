-- The rows stand below the member, and the cofactor is reduced by the rest.
use Rattle.cofactor_laws.proofs.SetZeros.{zero_rows_show_zeros}
use Rattle.cofactor_laws.proofs.laws.zero_rows_show_zeros.Goals as goal

pub returns : goal.returns
returns c = zero_rows_show_zeros
