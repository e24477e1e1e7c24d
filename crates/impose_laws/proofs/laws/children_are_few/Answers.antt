-- The degrees of the rows fall, and each row after the first makes at most one case.
use Rattle.impose_laws.proofs.FewChildren.{children_are_few}
use Rattle.impose_laws.proofs.laws.children_are_few.Goals as goal

pub returns : goal.returns
returns c = children_are_few
