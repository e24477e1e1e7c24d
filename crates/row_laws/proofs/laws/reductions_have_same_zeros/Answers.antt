-- A product of initials that aren't zero isn't zero.
use Rattle.row_laws.proofs.ReductionValues.{reductions_have_same_zeros}
use Rattle.row_laws.proofs.laws.reductions_have_same_zeros.Goals as goal

pub returns : goal.returns
returns c = reductions_have_same_zeros
