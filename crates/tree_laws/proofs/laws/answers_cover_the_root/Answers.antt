-- A point of a place is one of a child's, down to a leaf.
use Rattle.tree_laws.proofs.Cover.{answers_cover_the_root}
use Rattle.tree_laws.proofs.laws.answers_cover_the_root.Goals as goal

pub returns : goal.returns
returns g c step = answers_cover_the_root step _ _ _ _
