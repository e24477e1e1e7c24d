-- Sums of products come apart.
use Rattle.row_laws.proofs.ComposedRows.{composed_rows_are_combinations}
use Rattle.row_laws.proofs.laws.composed_rows_are_combinations.Goals as goal

pub returns : goal.returns
returns c = composed_rows_are_combinations
