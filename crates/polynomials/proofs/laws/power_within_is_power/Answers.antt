-- Each product that is made is the next power.
use Rattle.polynomials.proofs.Powers.{power_within_is_power}
use Rattle.polynomials.proofs.laws.power_within_is_power.Goals as goal

pub returns : goal.returns
returns c = power_within_is_power
