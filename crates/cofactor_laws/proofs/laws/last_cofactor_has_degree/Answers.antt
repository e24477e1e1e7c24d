-- The falls of the degrees add up.
use Rattle.cofactor_laws.proofs.CofactorRows.{last_cofactor_has_degree}
use Rattle.cofactor_laws.proofs.laws.last_cofactor_has_degree.Goals as goal

pub returns : goal.returns
returns c = last_cofactor_has_degree
