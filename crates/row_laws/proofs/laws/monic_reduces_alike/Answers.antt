-- The monic form is a multiple.
use Rattle.row_laws.proofs.ScaledReductions.{monic_reduces_alike}
use Rattle.row_laws.proofs.laws.monic_reduces_alike.Goals as goal

pub returns : goal.returns
returns c = monic_reduces_alike
