-- The lane stays at its hub, and the event that came back is still the tree's.
use Rattle.std.proofs.Common.{◌≡◌}
use Rattle.split_paths.specs.Key.{IsTrueEvent}
use Rattle.lanes_bench.specs.OneLeaf.{only_events}
use Rattle.lanes_bench.proofs.round.put.Given as goal

abbrev pub invariant-loop : goal.invariant-loop
invariant-loop g l = (l.lane.hub ≡ l.hub.name) × IsTrueEvent only_events l.event
