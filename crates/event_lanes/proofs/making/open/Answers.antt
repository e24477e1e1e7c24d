use Rattle.split_paths.specs.Key.{IsTrueEvent}
use Rattle.event_lanes.proofs.OpenLanes.{begins}
use Rattle.event_lanes.proofs.making.open.Goals as goal

pub ruled-requires-clause-rule : goal.ruled-requires-clause-rule
ruled-requires-clause-rule g c = begins (IsTrueEvent g.N.Named.events)
