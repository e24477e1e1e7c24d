-- The tree of splits below a place, in path order.
use Rattle.std.specs.Prelude.{ℕ, zero, suc, ◌+◌, nat_lt, List, [], ◌∷◌, ◌++◌, length, count_by}
use Rattle.std.specs.List.{flat_map}
use Rattle.split_paths.specs.declared.event.Event.{Event}
use Rattle.split_paths.specs.declared.event.Event.TheVariants.{Split, Leaf}
use Rattle.split_paths.specs.declared.event.Outcome.TheVariants as outcome
use Rattle.split_paths.specs.declared.splitter.Step.{Step}
use Rattle.split_paths.specs.declared.splitter.Step.TheVariants.{Gone, Emit, TooWide, Kids}
use Rattle.split_paths.specs.Places.{Place}

-- what is met at a path where so many steps are left and the next one would make this; an only
-- child keeps the path, so its parent has no event there
abbrev pub event_here : {T L : Type 0} → List ℕ → ℕ → Step T L → List (Event L)
event_here path zero made = Leaf path outcome.Steps ∷ []
event_here path (suc n) Gone = Leaf path outcome.Gone ∷ []
event_here path (suc n) (Emit leaf) = Leaf path (outcome.Chain leaf) ∷ []
event_here path (suc n) TooWide = Leaf path outcome.TooWide ∷ []
event_here path (suc n) (Kids []) = Leaf path outcome.Gone ∷ []
event_here path (suc n) (Kids (only ∷ [])) = []
event_here path (suc n) (Kids (first ∷ second ∷ others)) =
    Split path (length (first ∷ second ∷ others)) ∷ []

-- children that are numbered from i, each with so many steps left
abbrev pub numbered : {T : Type 0} → List ℕ → ℕ → ℕ → List T → List (Place T)
numbered path n i [] = []
numbered path n i (kid ∷ kids) =
    record { path = path ++ i ∷ []; steps = n; task = kid } ∷ numbered path n (i + 1) kids

-- the places of the children, each with one step fewer: an only child keeps the path, and more
-- than one are numbered from 1
abbrev pub children : {T L : Type 0} → List ℕ → ℕ → Step T L → List (Place T)
children path zero made = []
children path (suc n) Gone = []
children path (suc n) (Emit leaf) = []
children path (suc n) TooWide = []
children path (suc n) (Kids []) = []
children path (suc n) (Kids (only ∷ [])) =
    record { path = path; steps = n; task = only } ∷ []
children path (suc n) (Kids (first ∷ second ∷ others)) =
    numbered path n 1 (first ∷ second ∷ others)

module _ {T L : Type 0} (step : T → Step T L) where
  -- the event at a place itself, if it has one
  abbrev pub event_at : Place T → List (Event L)
  event_at place = event_here place.path place.steps (step place.task)

  -- the children of a place
  abbrev pub children_of : Place T → List (Place T)
  children_of place = children place.path place.steps (step place.task)

  -- what a tree's places have of their own, each place before its children: of a task that has so
  -- many steps left
  abbrev pub preorder_below : {A : Type 0} → (Place T → List A) → ℕ → List ℕ → T → List A
  preorder_below own zero path task = own (record { path = path; steps = zero; task = task })
  preorder_below own (suc n) path task =
      own (record { path = path; steps = suc n; task = task })
      ++ flat_map
      (λ (kid : Place T). preorder_below own n kid.path kid.task)
      (children path (suc n) (step task))

  -- what the places of the tree below a place have of their own, each place before its children
  abbrev pub preorder : {A : Type 0} → (Place T → List A) → Place T → List A
  preorder own place = preorder_below own place.steps place.path place.task

  -- the events of the tree below a place
  abbrev pub events_of : Place T → List (Event L)
  events_of = preorder event_at

  -- the places of the tree below a place, itself the first: what may be offered
  abbrev pub offers_of : Place T → List (Place T)
  offers_of = preorder (λ place. place ∷ [])

  -- the events that are still to come where these places wait
  abbrev pub events_to_come : List (Place T) → List (Event L)
  events_to_come waiting = flat_map events_of waiting

  -- the places that are still to come where these wait
  abbrev pub offers_to_come : List (Place T) → List (Place T)
  offers_to_come waiting = flat_map offers_of waiting

  -- how many steps are still to come: one for each place with a step left
  abbrev pub steps_to_come : List (Place T) → ℕ
  steps_to_come waiting =
      count_by (λ (place : Place T). nat_lt 0 place.steps) (offers_to_come waiting)
