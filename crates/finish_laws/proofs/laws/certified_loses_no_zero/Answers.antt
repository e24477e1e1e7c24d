-- Initial by initial.
use Rattle.finish_laws.proofs.EachInitial.{certified_loses_no_zero}
use Rattle.finish_laws.proofs.laws.certified_loses_no_zero.Goals as goal

pub returns : goal.returns
returns c = certified_loses_no_zero
