use Rattle.split_paths.proofs.Closed.{closed_tree}
use Rattle.split_paths.proofs.laws.lawful_trees_are_closed.Goals as goal

pub returns : goal.returns
returns g c splitter root lawful = closed_tree _ _ _ (g.met.X.Splitter.keeps_lawful splitter) root lawful
