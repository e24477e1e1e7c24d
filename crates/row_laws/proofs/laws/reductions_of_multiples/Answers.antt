-- A constant goes out of each elimination.
use Rattle.row_laws.proofs.ScaledReductions.{reductions_of_multiples}
use Rattle.row_laws.proofs.laws.reductions_of_multiples.Goals as goal

pub returns : goal.returns
returns c = reductions_of_multiples
