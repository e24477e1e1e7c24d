-- A last row without v would be its own lead, and zero.
use Rattle.row_laws.proofs.CommonZeros.{remainder_rows_end_in_common_zero}
use Rattle.row_laws.proofs.laws.remainder_rows_end_in_common_zero.Goals as goal

pub returns : goal.returns
returns c = remainder_rows_end_in_common_zero
