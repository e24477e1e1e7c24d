-- A root has no triangular set yet and all inputs to impose.
use Rattle.case_laws.proofs.Roots.{roots_start_well}
use Rattle.case_laws.proofs.laws.roots_start_well.Goals as goal

pub returns : goal.returns
returns c = roots_start_well
