-- Term by term, the greater of the greatest variables.
use Rattle.polynomials.proofs.MainVariables.{main_variable_is_greatest}
use Rattle.polynomials.proofs.laws.main_variable_is_greatest.Goals as goal

pub returns : goal.returns
returns c = main_variable_is_greatest
