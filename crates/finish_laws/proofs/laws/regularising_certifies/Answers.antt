-- What is left has no main variable.
use Rattle.finish_laws.proofs.Regularising.{regularising_certifies}
use Rattle.finish_laws.proofs.laws.regularising_certifies.Goals as goal

pub returns : goal.returns
returns c = regularising_certifies
