-- Each of them passes the test by computation.
use Rattle.polynomials.proofs.PrimeLemmas.{IsPrime-field_primes}
use Rattle.polynomials.proofs.primes.field_primes_are_primes.Goals as goal

pub returns : goal.returns
returns c = IsPrime-field_primes
