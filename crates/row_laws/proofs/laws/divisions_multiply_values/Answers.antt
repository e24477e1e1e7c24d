-- The multiple of the divisor that is taken away is zero.
use Rattle.row_laws.proofs.ValueLaws.{divisions_multiply_values}
use Rattle.row_laws.proofs.laws.divisions_multiply_values.Goals as goal

pub returns : goal.returns
returns c = divisions_multiply_values
