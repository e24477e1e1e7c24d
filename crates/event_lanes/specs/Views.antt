-- What contracts see of a hub, of a lane, and of the drain.
use Rattle.std.specs.Prelude.{◌≡◌, ℕ, List, [], ◌∷◌, ◌++◌, map, length}
use Rattle.std.specs.List.{AllByRecursion}
use Rattle.atomic_table.specs.Seated.{TableId}
use Rattle.crossbeam_queue.specs.Fifo.{Held}
use Rattle.split_paths.specs.Key.{IsTrueEvent}
use Rattle.split_paths.specs.declared.event.Event.{Event}
use Rattle.event_lanes.specs.declared.rule.Back.{Back}
use Rattle.event_lanes.specs.declared.rule.Post.{Post}
use Rattle.event_lanes.specs.declared.rule.View.{View}
use Rattle.event_lanes.specs.Passes.{lane_pass, drain_pass}
use Rattle.event_lanes.specs.Posts.{AreNumbered}
use Rattle.event_lanes.specs.Rule.{Beside}

-- a hub: which it is, and how many events it holds at most
pub record HubView : Type 0 where
  pub name : TableId
  pub room : ℕ

-- a lane: its hub, how many lanes that has, its number, and the events that it put
pub record LaneView (L : Type 0) : Type 0 where
  pub hub : TableId
  pub lanes : ℕ
  pub number : ℕ
  pub put : List (Event L)

-- the drain, or the rest after all lanes came back: its hub, how many lanes were made, the events
-- that were taken with their lanes, and the lanes that were given back
pub record DrainView (L : Type 0) : Type 0 where
  pub hub : TableId
  pub made : ℕ
  pub taken : List (Post (Event L))
  pub backs : List (Back (Event L))

module _ {L : Type 0} where
  -- the lane put one event more
  abbrev pub with_event : LaneView L → Event L → LaneView L
  with_event lane event = record lane { put = lane.put ++ event ∷ [] }

  -- one event more was taken, of this lane
  abbrev pub with_event_of : DrainView L → ℕ → Event L → DrainView L
  with_event_of drain lane event =
      record drain { taken = drain.taken ++ record { lane = lane; item = event } ∷ [] }

  -- a lane that was given back: its number, and all that it put
  abbrev pub back_of : LaneView L → Back (Event L)
  back_of lane = record { lane = lane.number; put = lane.put }

  -- these lanes were given back too
  abbrev pub with_backs : DrainView L → List (LaneView L) → DrainView L
  with_backs drain lanes = record drain { backs = drain.backs ++ map back_of lanes }

  -- what a lane's pass knows, and what the drain's does
  abbrev pub pass_of_lane : LaneView L → View (Event L)
  pass_of_lane lane = lane_pass lane.lanes lane.number lane.put

  abbrev pub pass_of_drain : DrainView L → View (Event L)
  pass_of_drain drain = drain_pass drain.made drain.made drain.taken drain.backs

  -- at one moment the queue held so many events, and views of others meet the rule beside this one
  unfoldable pub HeldBeside : List (Event L) → View (Event L) → ℕ → Type 0
  HeldBeside events view count = Held count (Beside (IsTrueEvent events) view)

-- a new hub's lanes in order, and its drain
pub record AreNewLanes {L : Type 0} (hub : HubView) (lanes : List (LaneView L))
    (drain : DrainView L) (count : ℕ) : Type 0 where
  pub hubs : AllByRecursion (λ (lane : LaneView L). lane.hub ≡ hub.name) lanes
  pub counts : AllByRecursion (λ (lane : LaneView L). lane.lanes ≡ count) lanes
  pub numbered : AreNumbered 0 (map back_of lanes)
  pub empty : AllByRecursion (λ (lane : LaneView L). lane.put ≡ []) lanes
  pub all : length lanes ≡ count
  pub of_hub : drain.hub ≡ hub.name
  pub made : drain.made ≡ count
  pub none_taken : drain.taken ≡ []
  pub none_back : drain.backs ≡ []
