-- Each turn takes a multiple of the divisor away.
use Rattle.row_laws.proofs.Identities.{pseudo_remainders_divide}
use Rattle.row_laws.proofs.laws.pseudo_remainders_divide.Goals as goal

pub returns : goal.returns
returns c = pseudo_remainders_divide
