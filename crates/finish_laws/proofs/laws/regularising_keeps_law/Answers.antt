-- Turn by turn, down the variables.
use Rattle.finish_laws.proofs.LawfulSteps.{regularising_keeps_law}
use Rattle.finish_laws.proofs.laws.regularising_keeps_law.Goals as goal

pub returns : goal.returns
returns c = regularising_keeps_law
