use Rattle.std.proofs.Common.{ap}
use Rattle.split_paths.specs.Key.{IsTrueEvent}
use Rattle.event_lanes.proofs.OpenLanes.{returns}
use Rattle.event_lanes.proofs.drain.Reader.absorb.Goals as goal

-- the reader is the drain, and the other a lane
pub absorb-requires-clause-rule : goal.absorb-requires-clause-rule
absorb-requires-clause-rule g c =
    returns (IsTrueEvent g.N.Named.events) _ _ _ _ (ap (λ v. v.drains) c.self.invariant.1) (ap (λ v. v.puts) c.lane.invariant.1)
