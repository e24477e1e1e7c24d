-- The laws of every tree of splits.
use Rattle.std.specs.Prelude.{◌≡◌, ◌<◌, List, [], ◌∷◌, ◌++◌, AllPairs, ◌⊎◌}
use Rattle.std.specs.List.{AllByRecursion}
use Rattle.split_paths.specs.declared.event.Event.{Event}
use Rattle.split_paths.specs.declared.splitter.Step.{Step}
use Rattle.split_paths.specs.Answer.{answer_of, joined}
use Rattle.split_paths.specs.Key.{IsTrueEvent, IsTrueOffer, IsClosedKey}
use Rattle.split_paths.specs.Lawful.{IsLawfulEvent}
use Rattle.split_paths.specs.Paths.{IsBefore}
use Rattle.split_paths.specs.Places.{Place}
use Rattle.split_paths.specs.Tree.{event_at, children_of, events_of, offers_of, events_to_come, offers_to_come}
use Rattle.split_paths.specs.Walk.{path_of, Visits, AreApart, HasEventAt}

-- the events below a place are its own, and then those below each of its children
abbrev pub EventsUnfold : Type 0 → Type 0 → Type 0
EventsUnfold T L =
    (step : T → Step T L) (place : Place T)
    → events_of step place ≡ event_at step place ++ events_to_come step (children_of step place)

-- the offers below a place are itself, and then those below each of its children
abbrev pub OffersUnfold : Type 0 → Type 0 → Type 0
OffersUnfold T L =
    (step : T → Step T L) (place : Place T)
    → offers_of step place ≡ place ∷ offers_to_come step (children_of step place)

-- the events of a tree are those of a walk that begins with its root's path
abbrev pub TreesAreWalks : Type 0 → Type 0 → Type 0
TreesAreWalks T L =
    (step : T → Step T L) (root : Place T) → Visits (root.path ∷ []) (events_of step root)

-- the events of a tree stand in strictly ascending order of their paths
abbrev pub EventsAscend : Type 0 → Type 0 → Type 0
EventsAscend T L =
    (step : T → Step T L) (root : Place T)
    → AllPairs (λ e f. IsBefore (path_of e) (path_of f)) (events_of step root)

-- no two events of a tree have one path
abbrev pub EventsAreApart : Type 0 → Type 0 → Type 0
EventsAreApart T L = (step : T → Step T L) (root : Place T) → AreApart (events_of step root)

-- each path of a tree has an event
abbrev pub PathsHaveEvents : Type 0 → Type 0 → Type 0
PathsHaveEvents T L =
    (step : T → Step T L) (root : Place T) (offer : Place T)
    → IsTrueOffer (offers_of step root) offer → HasEventAt (events_of step root) offer.path

-- an event of a tree is known by its path
abbrev pub EventsAreKnown : Type 0 → Type 0 → Type 0
EventsAreKnown T L =
    (step : T → Step T L) (root : Place T) (e f : Event L)
    → IsTrueEvent (events_of step root) e → IsTrueEvent (events_of step root) f
    → path_of e ≡ path_of f → e ≡ f

-- an offer comes before another by its path, or on one path by more steps left
abbrev pub ComesBefore : {T : Type 0} → Place T → Place T → Type 0
ComesBefore o p = IsBefore o.path p.path ⊎ ((o.path ≡ p.path) × (p.steps < o.steps))

-- the offers of a tree stand in path order, and on one path with falling steps
abbrev pub OffersAscend : Type 0 → Type 0 → Type 0
OffersAscend T L =
    (step : T → Step T L) (root : Place T) → AllPairs ComesBefore (offers_of step root)

-- the items of one list stand one after the other in another
abbrev pub IsRunOf : {A : Type 0} → List A → List A → Type 0
IsRunOf {A} xs ys = (before : List A) × (after : List A) × (ys ≡ before ++ (xs ++ after))

-- the events and the offers of each offer stand one after the other in those of the root
abbrev pub OffersNest : Type 0 → Type 0 → Type 0
OffersNest T L =
    (step : T → Step T L) (root : Place T) (offer : Place T)
    → IsTrueOffer (offers_of step root) offer
    → IsRunOf (events_of step offer) (events_of step root)
    × IsRunOf (offers_of step offer) (offers_of step root)

-- the key of each lawful root is closed
abbrev pub LawfulTreesAreClosed : {T L : Type 0} → (T → Step T L) → (T → Type 0) → Type 0
LawfulTreesAreClosed {T} step lawful_task =
    (root : Place T) → lawful_task root.task
    → IsClosedKey step lawful_task (events_of step root) (offers_of step root)

-- each leaf that the tree of a lawful root emits is lawful
abbrev pub EmittedLeavesAreLawful : {T L : Type 0} → (T → Step T L) → (T → Type 0)
    → (L → Type 0) → Type 0
EmittedLeavesAreLawful {T} step lawful_task lawful_leaf =
    (root : Place T) → lawful_task root.task
    → AllByRecursion (IsLawfulEvent lawful_leaf) (events_of step root)

-- the answer of events is made of the answers of their parts
abbrev pub AnswersJoin : Type 0 → Type 0
AnswersJoin L =
    (xs ys : List (Event L)) → answer_of (xs ++ ys) ≡ joined (answer_of xs) (answer_of ys)
