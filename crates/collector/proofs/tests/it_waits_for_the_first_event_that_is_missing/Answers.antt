use Rattle.collector.proofs.Samples.{fork_key}
use Rattle.collector.proofs.tests.it_waits_for_the_first_event_that_is_missing.Goals as goal

pub walk_fork-requires-clause-key : goal.walk_fork-requires-clause-key
walk_fork-requires-clause-key g c lifetimes = fork_key
