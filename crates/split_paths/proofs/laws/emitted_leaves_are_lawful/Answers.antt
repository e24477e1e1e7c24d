use Rattle.split_paths.proofs.Closed.{lawful_events}
use Rattle.split_paths.proofs.laws.emitted_leaves_are_lawful.Goals as goal

pub returns : goal.returns
returns g c splitter root lawful = lawful_events _ _ _ (g.met.X.Splitter.keeps_lawful splitter) root lawful
