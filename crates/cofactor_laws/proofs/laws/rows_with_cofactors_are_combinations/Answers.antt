-- The generators as rows are, and each step keeps it.
use Rattle.cofactor_laws.proofs.ZeroRows.{rows_with_cofactors_are_combinations}
use Rattle.cofactor_laws.proofs.laws.rows_with_cofactors_are_combinations.Goals as goal

pub returns : goal.returns
returns c = rows_with_cofactors_are_combinations
