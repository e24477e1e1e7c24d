-- A factor other than 0 cancels.
use Rattle.polynomials.proofs.Integral.{quotient_is_unique}
use Rattle.polynomials.proofs.laws.quotient_is_unique.Goals as goal

pub returns : goal.returns
returns c = quotient_is_unique
