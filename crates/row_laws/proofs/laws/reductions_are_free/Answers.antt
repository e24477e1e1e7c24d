-- No step brings a variable in.
use Rattle.row_laws.proofs.FallingRows.{reductions_are_free}
use Rattle.row_laws.proofs.laws.reductions_are_free.Goals as goal

pub returns : goal.returns
returns c = reductions_are_free
