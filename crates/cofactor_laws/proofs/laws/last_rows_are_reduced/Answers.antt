-- The degrees fall to 0, and each row is reduced.
use Rattle.cofactor_laws.proofs.LastRows.{last_rows_are_reduced}
use Rattle.cofactor_laws.proofs.laws.last_rows_are_reduced.Goals as goal

pub returns : goal.returns
returns c = last_rows_are_reduced
