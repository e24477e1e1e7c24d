-- Each summand has a factor that is zero.
use Rattle.row_laws.proofs.VanishingRows.{combinations_keep_zeros}
use Rattle.row_laws.proofs.laws.combinations_keep_zeros.Goals as goal

pub returns : goal.returns
returns c = combinations_keep_zeros
