use Rattle.std.proofs.Common.{◌≡◌, ap, arith}
use Rattle.split_paths.specs.Key.{IsTrueEvent}
use Rattle.event_lanes.specs.Passes.{known}
use Rattle.event_lanes.specs.declared.rule.View.{View}
use Rattle.event_lanes.proofs.OpenLanes.{makes}
use Rattle.event_lanes.proofs.making.make.Goals as goal

pub another-requires-clause-rule : goal.another-requires-clause-rule
another-requires-clause-rule g c =
    makes (IsTrueEvent g.N.Named.events) _ _ (ap (λ v. v.drains) c.requires.known)
    (let mine : (known c.args.pass.now).made ≡ c.args.number = ap (λ (v : View _). v.made) c.requires.known in
    let room = c.requires.room in omega arith)
