-- Power by power, what is left has the later coefficients.
use Rattle.recursive_poly.proofs.Powers.{coefficients_determine}
use Rattle.recursive_poly.proofs.laws.coefficients_determine.Goals as goal

pub returns : goal.returns
returns c = coefficients_determine
