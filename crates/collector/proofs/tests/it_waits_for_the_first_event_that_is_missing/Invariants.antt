-- The key of the tree whose events are noted.
use Rattle.split_paths.specs.Tree.{offers_of}
use Rattle.collector.specs.Samples.{fork, fork_events, root_at}
use Rattle.collector.proofs.tests.it_waits_for_the_first_event_that_is_missing.Given as goal

abbrev pub ghosts-walk_fork : goal.ghosts-walk_fork
ghosts-walk_fork g a = record { events = fork_events; offers = offers_of fork (root_at 3 3) }
