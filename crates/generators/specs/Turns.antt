-- What a turn does to the places that wait.
use Rattle.std.specs.Prelude.{◌≡◌, ℕ, List, [], ◌∷◌, ◌++◌, length}
use Rattle.std.specs.List.{AllByRecursion}
use Rattle.split_paths.specs.declared.event.Event.{Event}
use Rattle.split_paths.specs.declared.event.Event.TheVariants as event
use Rattle.split_paths.specs.declared.event.Outcome.TheVariants as outcome
use Rattle.split_paths.specs.declared.splitter.Step.{Step}
use Rattle.split_paths.specs.Lawful.{IsLawfulEvent}
use Rattle.split_paths.specs.Places.{Place}
use Rattle.split_paths.specs.Tree.{children_of, event_at, events_of, events_to_come, offers_to_come}
use Rattle.generators.specs.declared.turn.Turn.{Turn}
use Rattle.generators.specs.declared.turn.Turn.TheVariants.{Quiet, Done}
use Rattle.generators.specs.declared.turn.Turn.TheVariants as turn

-- each waiting task is lawful
abbrev pub AreLawful : {T : Type 0} → (T → Type 0) → List (Place T) → Type 0
AreLawful lawful waiting = AllByRecursion (λ place. lawful place.task) waiting

-- the first place that waited gave way to its children, and this is the event at itself
pub record FirstGaveWay {T L : Type 0} (step : T → Step T L) (old new : List (Place T))
    (events : List (Event L)) : Type 0 where
  pub first : Place T
  pub rest : List (Place T)
  pub waited : old ≡ first ∷ rest
  pub wait : new ≡ children_of step first ++ rest
  pub met : event_at step first ≡ events

-- what a turn made of the places that waited
abbrev pub GivesWay : {T L : Type 0} → (T → Step T L) → List (Place T) → List (Place T)
    → Turn L → Type 0
GivesWay step old new Quiet = FirstGaveWay step old new []
GivesWay step old new (turn.Event event) = FirstGaveWay step old new (event ∷ [])
GivesWay step old new Done = (old ≡ []) × (new ≡ [])

-- what a turn took of the events that were to come
abbrev pub Meets : {L : Type 0} → List (Event L) → List (Event L) → Turn L → Type 0
Meets old new Quiet = new ≡ old
Meets old new (turn.Event event) = old ≡ event ∷ new
Meets old new Done = (old ≡ []) × (new ≡ [])

-- an event that was met is lawful
abbrev pub IsLawfulTurn : {L : Type 0} → (L → Type 0) → Turn L → Type 0
IsLawfulTurn lawful Quiet = Unit {0}
IsLawfulTurn lawful (turn.Event event) = IsLawfulEvent lawful event
IsLawfulTurn lawful Done = Unit {0}

-- memory ran out at the path of the first place that waited, and none waits now
pub record StarvesAt {T : Type 0} (old new : List (Place T)) (path : List ℕ) : Type 0 where
  pub first : Place T
  pub rest : List (Place T)
  pub waited : old ≡ first ∷ rest
  pub at : path ≡ first.path
  pub none : new ≡ []

-- how many turns are made until nothing waits: one for each place that is to come
abbrev pub turns_to_come : {T L : Type 0} → (T → Step T L) → List (Place T) → ℕ
turns_to_come step waiting = length (offers_to_come step waiting)

-- how many turns towards the end a turn was
abbrev pub turns_made : {L : Type 0} → Turn L → ℕ
turns_made Quiet = 1
turns_made (turn.Event event) = 1
turns_made Done = 0

-- how many steps a turn made: none where no step was left, or nothing waited
abbrev pub steps_made : {L : Type 0} → Turn L → ℕ
steps_made Quiet = 1
steps_made (turn.Event (event.Split path kids)) = 1
steps_made (turn.Event (event.Leaf path outcome.Gone)) = 1
steps_made (turn.Event (event.Leaf path (outcome.Chain leaf))) = 1
steps_made (turn.Event (event.Leaf path outcome.TooWide)) = 1
steps_made (turn.Event (event.Leaf path outcome.Steps)) = 0
steps_made Done = 0

-- whatever the steps are, the events to come were those that still are, and then those below this
abbrev pub IsLastToCome : (T L : Type 0) → List (Place T) → List (Place T) → Place T → Type 0
IsLastToCome T L old new given =
    (step : T → Step T L)
    → events_to_come step old ≡ events_to_come step new ++ events_of step given
