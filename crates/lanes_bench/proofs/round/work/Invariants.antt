-- The lane stays at its hub.
use Rattle.std.proofs.Common.{◌≡◌}
use Rattle.lanes_bench.proofs.round.work.Given as goal

abbrev pub invariant-loop-number : goal.invariant-loop-number
invariant-loop-number g l = l.lane.hub ≡ l.hub.name
