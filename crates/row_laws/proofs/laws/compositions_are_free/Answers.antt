-- Sums and products bring no variable in.
use Rattle.row_laws.proofs.FreeCompositions.{compositions_are_free}
use Rattle.row_laws.proofs.laws.compositions_are_free.Goals as goal

pub returns : goal.returns
returns c = compositions_are_free
