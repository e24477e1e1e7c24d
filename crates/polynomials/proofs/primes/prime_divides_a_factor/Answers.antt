-- Where a factor is not 0, its inverse takes it away.
use Rattle.polynomials.proofs.InverseLemmas.{prime_divides_a_factor}
use Rattle.polynomials.proofs.primes.prime_divides_a_factor.Goals as goal

pub returns : goal.returns
returns c = prime_divides_a_factor
