-- What the passes of a hub's queue know, and how a step changes it.
use Rattle.std.specs.Prelude.{◌≡◌, true, false, ℕ, ◌+◌, List, [], ◌∷◌, ◌++◌}
use Rattle.atomic_table.specs.Seated.{TableId}
use Rattle.crossbeam_queue.specs.Passes.{Pass}
use Rattle.event_lanes.specs.declared.rule.Post.{Post}
use Rattle.event_lanes.specs.declared.rule.Back.{Back}
use Rattle.event_lanes.specs.declared.rule.View.{View}

module _ {A : Type 0} where
  -- what a pass knows
  abbrev pub known : Pass (Post A) (View A) → View A
  known pass = pass.me.0.client

  -- it is a pass of this queue, and holds no slot
  abbrev pub IsPassAt : TableId → Pass (Post A) (View A) → Type 0
  IsPassAt queue pass = (pass.table_id ≡ queue) × (pass.me.1 ≡ [])

  -- a lane of so many, with its number and what it put
  abbrev pub lane_pass : ℕ → ℕ → List A → View A
  lane_pass lanes number put =
      record {
        puts = true;
        drains = false;
        lanes = lanes;
        number = number;
        put = put;
        made = 0;
        taken = [];
        backs = [];
      }

  -- the drain of so many lanes, with how many were made, what it took, and the lanes given back
  abbrev pub drain_pass : ℕ → ℕ → List (Post A) → List (Back A) → View A
  drain_pass lanes made taken backs =
      record {
        puts = false;
        drains = true;
        lanes = lanes;
        number = 0;
        put = [];
        made = made;
        taken = taken;
        backs = backs;
      }

  -- a pass that is no one's
  abbrev pub spent_pass : View A
  spent_pass =
      record {
        puts = false;
        drains = false;
        lanes = 0;
        number = 0;
        put = [];
        made = 0;
        taken = [];
        backs = [];
      }

  -- the lane put one item more
  abbrev pub with_put : View A → A → View A
  with_put lane item = lane_pass lane.lanes lane.number (lane.put ++ item ∷ [])

  -- the drain took one item more
  abbrev pub with_taken : View A → Post A → View A
  with_taken drain post = drain_pass drain.lanes drain.made (drain.taken ++ post ∷ []) drain.backs

  -- there may be one lane more
  abbrev pub grown : View A → View A
  grown drain = drain_pass (drain.lanes + 1) drain.made drain.taken drain.backs

  -- one lane more was made
  abbrev pub with_made : View A → View A
  with_made drain = drain_pass drain.lanes (drain.made + 1) drain.taken drain.backs

  -- the lane that is made next
  abbrev pub new_lane : View A → View A
  new_lane drain = lane_pass drain.lanes drain.made []

  -- the lane was given back
  abbrev pub with_back : View A → View A → View A
  with_back drain lane =
      drain_pass drain.lanes drain.made drain.taken
      (drain.backs ++ record { lane = lane.number; put = lane.put } ∷ [])
