-- The divisor has no such variable, so no multiple of it brings one in.
use Rattle.row_laws.proofs.DegreeLaws.{divisions_keep_degrees}
use Rattle.row_laws.proofs.laws.divisions_keep_degrees.Goals as goal

pub returns : goal.returns
returns c = divisions_keep_degrees
