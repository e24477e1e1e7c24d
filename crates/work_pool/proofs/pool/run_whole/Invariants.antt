-- The key of a run is that of its splitter and its root.
use Rattle.std.specs.Arc.{arc_value}
use Rattle.split_paths.specs.Tree.{events_of, offers_of}
use Rattle.work_pool.proofs.pool.run_whole.Given as goal

abbrev pub ghosts-run_keyed : goal.ghosts-run_keyed
ghosts-run_keyed g a = record {
  events = events_of (g.X.Splitter.step (arc_value a.splitter)) a.root;
  offers = offers_of (g.X.Splitter.step (arc_value a.splitter)) a.root;
}
