-- Initial by initial.
use Rattle.finish_laws.proofs.EachInitial.{certified_certifies}
use Rattle.finish_laws.proofs.laws.certified_certifies.Goals as goal

pub returns : goal.returns
returns c = certified_certifies
