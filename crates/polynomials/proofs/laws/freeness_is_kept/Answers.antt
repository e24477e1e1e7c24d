-- Degrees of sums and products are bounded by those of the operands.
use Rattle.polynomials.proofs.DegreesOfProducts.{freeness_is_kept}
use Rattle.polynomials.proofs.laws.freeness_is_kept.Goals as goal

pub returns : goal.returns
returns c = freeness_is_kept
