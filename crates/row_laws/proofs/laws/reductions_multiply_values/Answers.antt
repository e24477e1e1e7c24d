-- Each elimination multiplies the value by the initial of a polynomial of the chain.
use Rattle.row_laws.proofs.ReductionValues.{reductions_multiply_values}
use Rattle.row_laws.proofs.laws.reductions_multiply_values.Goals as goal

pub returns : goal.returns
returns c = reductions_multiply_values
