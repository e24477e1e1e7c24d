-- Each entry is made of entries and leads that lack the variable, and so is a factor of one.
use Rattle.row_laws.proofs.FallingRows.{remainder_rows_are_free}
use Rattle.row_laws.proofs.laws.remainder_rows_are_free.Goals as goal

pub returns : goal.returns
returns c = remainder_rows_are_free
