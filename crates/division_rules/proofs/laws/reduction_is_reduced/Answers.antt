-- A triangular set is a chain, and a reduction by a chain is reduced by it.
use Rattle.division_rules.proofs.TriangularReductions.{reduction_is_reduced}
use Rattle.division_rules.proofs.laws.reduction_is_reduced.Goals as goal

pub returns : goal.returns
returns c = reduction_is_reduced
