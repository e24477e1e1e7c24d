-- Each member takes a multiple of itself away.
use Rattle.row_laws.proofs.Identities.{reductions_divide}
use Rattle.row_laws.proofs.laws.reductions_divide.Goals as goal

pub returns : goal.returns
returns c = reductions_divide
