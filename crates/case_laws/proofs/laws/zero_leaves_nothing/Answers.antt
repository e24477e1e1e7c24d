-- The first step imposes 1.
use Rattle.case_laws.proofs.Roots.{zero_leaves_nothing}
use Rattle.case_laws.proofs.laws.zero_leaves_nothing.Goals as goal

pub returns : goal.returns
returns c = zero_leaves_nothing
