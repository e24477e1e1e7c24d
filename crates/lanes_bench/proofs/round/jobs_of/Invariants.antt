-- The lanes that are left and those of the jobs are the hub's.
use Rattle.std.proofs.Common.{◌≡◌}
use Rattle.std.specs.Prelude.{All}
use Rattle.lanes_bench.proofs.round.jobs_of.Given as goal

abbrev pub invariant-loop : goal.invariant-loop
invariant-loop l =
    All (λ lane. lane.hub ≡ l.hub.name) l.lanes.items × All (λ job. job.0.hub ≡ l.hub.name) l.jobs.items
