-- Strong induction on the residue gives an inverse, and the search meets it.
use Rattle.polynomials.proofs.InverseLemmas.{inverse_of_is}
use Rattle.polynomials.proofs.primes.inverses_exist.Goals as goal

pub returns : goal.returns
returns c = inverse_of_is
