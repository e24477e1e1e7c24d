use Rattle.tally_laws.proofs.Places.{sum_moves}
use Rattle.tally_laws.proofs.laws.sums_move.Goals as goal

pub returns : goal.returns
returns g c = sum_moves
