-- The law of the list of coefficients.
use Rattle.recursive_poly.proofs.CoefficientLists.{coefficients_are_free}
use Rattle.recursive_poly.proofs.laws.coefficients_are_free.Goals as goal

pub returns : goal.returns
returns c = coefficients_are_free
