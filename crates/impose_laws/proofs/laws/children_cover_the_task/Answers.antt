-- Where no lead is zero at the point the new member is, and else the first lead that is has a child.
use Rattle.impose_laws.proofs.Cover.{children_cover_the_task}
use Rattle.impose_laws.proofs.laws.children_cover_the_task.Goals as goal

pub returns : goal.returns
returns c = children_cover_the_task
