-- Degrees add, so both are 0.
use Rattle.polynomials.proofs.DegreesOfProducts.{factors_are_free}
use Rattle.polynomials.proofs.laws.factors_are_free.Goals as goal

pub returns : goal.returns
returns c = factors_are_free
