-- Whatever was done, the account is balanced where it was.
use Rattle.std.proofs.Common.{◌≡◌}
use Rattle.work_pool.specs.Works.{IsAtWork, Works}
use Rattle.work_pool.proofs.worker.work.Given as goal

abbrev pub invariant-loop : goal.invariant-loop
invariant-loop g l = record {
  desk : IsAtWork g.N.Named.events g.N.Named.offers l.desk;
  hub : l.desk.lane.hub ≡ l.hub.name;
  works : Works g.N.Named.events g.N.Named.offers (g.X.Splitter.step l.splitter) l.fn.desk l.desk;
}
