-- The rule of a hub: how what its queue holds and what its passes know go together.
use Rattle.std.specs.Prelude.{◌≡◌, ◌<◌, ◌≤◌, true, ℕ, List, [], ◌∷◌, ◌++◌, Option, Some, None}
use Rattle.std.specs.List.{AllByRecursion}
use Rattle.tally_laws.specs.Places.{HasAt, EachAt}
use Rattle.event_lanes.specs.declared.rule.Post.{Post}
use Rattle.event_lanes.specs.declared.rule.Back.{Back}
use Rattle.event_lanes.specs.declared.rule.View.{View}
use Rattle.event_lanes.specs.Posts.{of_lane, ArePrefixes}

-- what the passes of a hub have in common: the pass of the drain, the pass of each lane that is
-- out, what each lane put, what was taken, how many lanes there may be and how many were made
pub record Traffic (A : Type 0) : Type 0 where
  pub reader : ℕ
  pub seat : ℕ → Option ℕ
  pub sent : ℕ → List A
  pub got : List (Post A)
  pub lanes : ℕ
  pub made : ℕ

module _ {A : Type 0} (traffic : Traffic A) where
  -- a lane's pass is the only one with its number, which is less than the number made
  pub record FitsLane (pass : ℕ) (view : View A) : Type 0 where
    pub only : traffic.seat view.number ≡ Some pass
    pub made : view.number < traffic.made
    pub put : view.put ≡ traffic.sent view.number
    pub lanes : view.lanes ≡ traffic.lanes

  -- a lane that was given back has no pass any more, and its list stays
  pub record FitsBack (back : Back A) : Type 0 where
    pub gone : traffic.seat back.lane ≡ None
    pub made : back.lane < traffic.made
    pub put : back.put ≡ traffic.sent back.lane

  -- the drain's pass is the only one of its kind, and knows what was taken
  pub record FitsDrain (pass : ℕ) (view : View A) : Type 0 where
    pub only : pass ≡ traffic.reader
    pub made : view.made ≡ traffic.made
    pub taken : view.taken ≡ traffic.got
    pub lanes : view.lanes ≡ traffic.lanes
    pub backs : AllByRecursion FitsBack view.backs

  -- a pass that is neither may know anything
  abbrev pub FitsPass : ℕ → View A → Type 0
  FitsPass pass view =
      (view.puts ≡ true → FitsLane pass view) × (view.drains ≡ true → FitsDrain pass view)

  -- the queue holds true items: those that were put and not yet taken, each lane's in its order
  pub record Agrees (IsTrue : A → Type 0) (items : List (Post A)) (views : List (View A))
      : Type 0 where
    pub known : AllByRecursion (λ (post : Post A). IsTrue post.item) items
    pub order : (lane : ℕ) → of_lane lane (traffic.got ++ items) ≡ traffic.sent lane
    pub few : traffic.made ≤ traffic.lanes
    pub unmade : (lane : ℕ) → traffic.made ≤ lane
        → (traffic.seat lane ≡ None) × (traffic.sent lane ≡ [])
    pub fits : EachAt FitsPass views

-- the rule: some traffic agrees with what the queue holds and with what each pass knows
abbrev pub KeepsHub : {A : Type 0} → (A → Type 0) → List (Post A) → List (View A) → Type 0
KeepsHub {A} IsTrue items views = (traffic : Traffic A) × Agrees traffic IsTrue items views

-- there are views of others that meet the rule beside this one, where the queue holds these items
abbrev pub Beside : {A : Type 0} → (A → Type 0) → View A → List (Post A) → Type 0
Beside {A} IsTrue view items =
    (views : List (View A)) × (pass : ℕ) × KeepsHub IsTrue items views × HasAt views pass view

-- an item that the drain takes is true, of a lane that was made, and the next that its lane put
pub record IsNext {A : Type 0} (IsTrue : A → Type 0) (drain : View A) (post : Post A) : Type 0 where
  pub known : IsTrue post.item
  pub made : post.lane < drain.made
  pub prefixes : ArePrefixes (drain.taken ++ post ∷ []) drain.backs
