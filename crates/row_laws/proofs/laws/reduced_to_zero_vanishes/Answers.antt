-- The value of 0 is 0.
use Rattle.row_laws.proofs.ReductionValues.{reduced_to_zero_vanishes}
use Rattle.row_laws.proofs.laws.reduced_to_zero_vanishes.Goals as goal

pub returns : goal.returns
returns c = reduced_to_zero_vanishes
