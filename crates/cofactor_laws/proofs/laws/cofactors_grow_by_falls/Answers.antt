-- A pseudo-remainder moves the lead of the row before into the cofactor, and a reduction multiplies it by initials.
use Rattle.cofactor_laws.proofs.CofactorRows.{cofactors_grow_by_falls}
use Rattle.cofactor_laws.proofs.laws.cofactors_grow_by_falls.Goals as goal

pub returns : goal.returns
returns c = cofactors_grow_by_falls
