-- A constant goes out of each elimination by a multiple.
use Rattle.row_laws.proofs.MonicChains.{monic_chains_reduce_alike}
use Rattle.row_laws.proofs.laws.monic_chains_reduce_alike.Goals as goal

pub returns : goal.returns
returns c = monic_chains_reduce_alike
