-- The coefficients are multiplied by the inverse of the first.
use Rattle.polynomials.proofs.MonicLemmas.{monic_is_monic}
use Rattle.polynomials.proofs.laws.monic_is_monic.Goals as goal

pub returns : goal.returns
returns c = monic_is_monic
