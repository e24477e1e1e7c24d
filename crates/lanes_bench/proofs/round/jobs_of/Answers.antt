use Rattle.std.proofs.Common.{◌≡◌, Some}
use Rattle.std.proofs.lemmas.List.Elements.{All-pop, All-push, All-same}
use Rattle.event_lanes.specs.Views.{LaneView}
use Rattle.lanes_bench.specs.declared.hands.Hands.{Hands}
use Rattle.lanes_bench.proofs.round.jobs_of.Goals as goal

-- the lane that leaves the lanes is that of the next job
pub loop-preserved : goal.loop-preserved
loop-preserved c =
    let popped =
    All-pop (λ (lane : LaneView _). lane.hub ≡ c.args.hub.now.name) _ _ (Some c.in-Some.lane)
    c.in-Some.ensures.items c.loop.invariant.0 in (
      popped.0,
      All-same (λ (job : LaneView _ × Hands). job.0.hub ≡ c.args.hub.now.name) _ _ c.in_ok-push.ensures.items
          (All-push (λ (job : LaneView _ × Hands). job.0.hub ≡ c.args.hub.now.name) _ _ c.loop.invariant.1 popped.1),
    )
