-- Turn by turn, down the variables.
use Rattle.finish_laws.proofs.Regularising.{regularising_loses_no_zero}
use Rattle.finish_laws.proofs.laws.regularising_loses_no_zero.Goals as goal

pub returns : goal.returns
returns c = regularising_loses_no_zero
