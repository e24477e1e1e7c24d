-- Initial by initial.
use Rattle.finish_laws.proofs.LawfulSteps.{certified_keeps_law}
use Rattle.finish_laws.proofs.laws.certified_keeps_law.Goals as goal

pub returns : goal.returns
returns c = certified_keeps_law
