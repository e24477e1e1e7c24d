-- The chain has no such variable.
use Rattle.row_laws.proofs.DegreeLaws.{reductions_keep_degrees}
use Rattle.row_laws.proofs.laws.reductions_keep_degrees.Goals as goal

pub returns : goal.returns
returns c = reductions_keep_degrees
