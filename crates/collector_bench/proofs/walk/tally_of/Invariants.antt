-- The key of the tree whose events are noted.
use Rattle.std.proofs.Common.{[], ◌∷◌}
use Rattle.split_paths.specs.Tree.{events_to_come, offers_of}
use Rattle.collector_bench.specs.Halves.{halves, top}
use Rattle.collector_bench.proofs.walk.tally_of.Given as goal

abbrev pub ghosts-run : goal.ghosts-run
ghosts-run a = record { events = events_to_come halves (top a.levels ∷ []); offers = offers_of halves (top a.levels) }
