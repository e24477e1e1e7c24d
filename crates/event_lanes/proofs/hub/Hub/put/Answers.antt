use Rattle.std.proofs.Common.{◌≤◌, length, ap, sym, ◌∙◌, subst, subst₂}
use Rattle.split_paths.specs.Key.{IsTrueEvent}
use Rattle.event_lanes.specs.Passes.{known}
use Rattle.event_lanes.specs.Views.{HubView, LaneView, HeldBeside, pass_of_lane}
use Rattle.event_lanes.proofs.Posting.{puts}
use Rattle.event_lanes.proofs.Lessons.{stands, put_all, held_beside}
use Rattle.event_lanes.proofs.hub.Hub.put.Goals as goal

pub push_as-requires-clause-rule : goal.push_as-requires-clause-rule
push_as-requires-clause-rule g c = (
  puts (IsTrueEvent g.N.Named.events) _ _ _ _ (ap (λ v. v.puts) c.lane.invariant.1) (sym (ap (λ v. v.number) c.lane.invariant.1)) c.requires.event,
  stands (IsTrueEvent g.N.Named.events) _ _,
)

pub returns-clause-room : goal.returns-clause-room
returns-clause-room g c =
    subst (λ lane. HeldBeside g.N.Named.events (pass_of_lane lane) c.args.self.now.room) c.lane.view_is
    (subst (λ v. HeldBeside g.N.Named.events v c.args.self.now.room) c.lane.invariant.1
    (subst (λ hub. HeldBeside g.N.Named.events (known c.lane.inside.pass) hub.room) c.self.view_is
    (held_beside g.N.Named.events _ _ c.in-Err.ensures.rule.2)))

pub returns-clause-alone : goal.returns-clause-alone
returns-clause-alone g c one =
    subst₂ (λ (hub : HubView) (lane : LaneView _). hub.room ≤ length lane.put) c.self.view_is c.lane.view_is
    (put_all (IsTrueEvent g.N.Named.events) _ _ (ap (λ v. v.puts) c.lane.invariant.1)
    (ap (λ (lane : LaneView _). lane.lanes) c.lane.view_is ∙ one) c.in-Err.ensures.rule.2)
