-- The combinations add.
use Rattle.row_laws.proofs.Compositions.{compositions_are_rows}
use Rattle.row_laws.proofs.laws.compositions_are_rows.Goals as goal

pub returns : goal.returns
returns c = compositions_are_rows
