-- The drain stays at its hub.
use Rattle.std.proofs.Common.{◌≡◌}
use Rattle.lanes_bench.proofs.drain.drain_all.Given as goal

abbrev pub invariant-loop : goal.invariant-loop
invariant-loop g l = l.drain.hub ≡ l.hub.name
