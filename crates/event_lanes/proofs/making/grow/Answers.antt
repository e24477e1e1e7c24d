use Rattle.std.proofs.Common.{ap}
use Rattle.split_paths.specs.Key.{IsTrueEvent}
use Rattle.event_lanes.proofs.OpenLanes.{grows}
use Rattle.event_lanes.proofs.making.grow.Goals as goal

pub another-requires-clause-rule : goal.another-requires-clause-rule
another-requires-clause-rule g c =
    grows (IsTrueEvent g.N.Named.events) _ _ (ap (λ v. v.drains) c.requires.known) (ap (λ v. v.made) c.requires.known)
