-- Keys: the events and the offers of one tree, and what is true of them.
use Rattle.std.specs.Prelude.{◌≡◌, List, [], Contains}
use Rattle.std.specs.List.{AllByRecursion}
use Rattle.split_paths.specs.declared.event.Event.{Event}
use Rattle.split_paths.specs.declared.splitter.Step.{Step}
use Rattle.split_paths.specs.Places.{Place}
use Rattle.split_paths.specs.Tree.{children_of, events_of, offers_of}

-- an event is true of a key where it is one of the tree's
abbrev pub IsTrueEvent : {L : Type 0} → List (Event L) → Event L → Type 0
IsTrueEvent events event = Contains events event

-- an offer is true of a key where the tree has that task at that path with those steps left
abbrev pub IsTrueOffer : {T : Type 0} → List (Place T) → Place T → Type 0
IsTrueOffer offers offer = Contains offers offer

-- a key is that of a tree whose root has the empty path
pub record IsTreeKey {T L : Type 0} (events : List (Event L)) (offers : List (Place T))
    : Type 0 where
  pub step : T → Step T L
  pub root : Place T
  pub whole : root.path ≡ []
  pub same_events : events ≡ events_of step root
  pub same_offers : offers ≡ offers_of step root

-- of an offer of a key: its task is lawful, and what is below it is true of the key
pub record IsCovered {T L : Type 0} (step : T → Step T L) (lawful : T → Type 0)
    (events : List (Event L)) (offers : List (Place T)) (offer : Place T) : Type 0 where
  pub task : lawful offer.task
  pub below : AllByRecursion (IsTrueEvent events) (events_of step offer)
  pub offered : AllByRecursion (IsTrueOffer offers) (offers_of step offer)
  pub kids : AllByRecursion (IsTrueOffer offers) (children_of step offer)

-- whatever is offered by this key, and made of it, stays within the key
abbrev pub IsClosedKey : {T L : Type 0} → (T → Step T L) → (T → Type 0)
    → List (Event L) → List (Place T) → Type 0
IsClosedKey {T} step lawful events offers =
    (offer : Place T) → IsTrueOffer offers offer → IsCovered step lawful events offers offer
