-- A pseudo-remainder has less degree, and reductions and quotients keep bounds.
use Rattle.row_laws.proofs.FallingRows.{remainder_rows_fall}
use Rattle.row_laws.proofs.laws.remainder_rows_fall.Goals as goal

pub returns : goal.returns
returns c = remainder_rows_fall
