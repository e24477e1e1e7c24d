-- Both sides of each law have the same weighted sums.
use Rattle.polynomials.proofs.PolynomialRing.{polynomials_make_a_ring}
use Rattle.polynomials.proofs.laws.polynomials_make_a_ring.Goals as goal

pub returns : goal.returns
returns c = polynomials_make_a_ring
