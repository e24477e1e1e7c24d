-- The product of the first terms is there.
use Rattle.polynomials.proofs.FirstTerms.{no_zero_divisors}
use Rattle.polynomials.proofs.laws.no_zero_divisors.Goals as goal

pub returns : goal.returns
returns c = no_zero_divisors
