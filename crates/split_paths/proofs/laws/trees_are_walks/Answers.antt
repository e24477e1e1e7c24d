use Rattle.split_paths.proofs.Walks.{visits_tree}
use Rattle.split_paths.proofs.laws.trees_are_walks.Goals as goal

pub returns : goal.returns
returns g c = visits_tree
