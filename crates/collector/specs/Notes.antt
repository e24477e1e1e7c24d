-- What a collector is seen as, and the words on it that its callers read.
use Rattle.std.specs.Prelude.{◌≡◌, ◌⊎◌, ℕ, ◌<◌, Bool, false, true, List, [], ◌∷◌, Option, IfSome, IsSome, filter, length}
use Rattle.std.specs.BTreeMap.{is_at}
use Rattle.std.specs.Cmp.Lexicographic.{slice_cmp}
use Rattle.std.specs.List.{AllPairs}
use Rattle.std.specs.Map.{lookup}
use Rattle.std.specs.Ordering.{nat_cmp, is_le, is_lt}
use Rattle.split_paths.specs.declared.event.Event.{Event}
use Rattle.split_paths.specs.declared.event.Event.TheVariants as event
use Rattle.split_paths.specs.declared.event.Outcome.TheVariants as outcome
use Rattle.split_paths.specs.declared.event.Why.TheVariants as why
use Rattle.split_paths.specs.Answer.{Answer, answer_of}
use Rattle.split_paths.specs.Key.{IsTrueEvent}
use Rattle.split_paths.specs.Paths.{IsBefore}
use Rattle.split_paths.specs.Walk.{path_of, Visits, HasEventAt}
use Rattle.collector.specs.declared.met.Met.{Met}
use Rattle.collector.specs.declared.met.Met.TheVariants.{Split, Gone, Chain, Stop}
use Rattle.collector.specs.declared.met.Position.{Position}
use Rattle.collector.specs.declared.met.Position.TheVariants.{Here, Passed, Ended}

-- what was noted and not passed, at its path; the path at which the walk stands, the paths that
-- come after what is below it, and whether the walk has passed what is at it
pub record Notes (L : Type 0) : Type 0 where
  pub waiting : List (List ℕ × Met L)
  pub cursor : List ℕ
  pub later : List (List ℕ)
  pub position : Position

-- the event of what is met at a path
abbrev pub event_of : {L : Type 0} → List ℕ → Met L → Event L
event_of path (Split kids) = event.Split path kids
event_of path Gone = event.Leaf path outcome.Gone
event_of path (Chain leaf) = event.Leaf path (outcome.Chain leaf)
event_of path (Stop why.Steps) = event.Leaf path outcome.Steps
event_of path (Stop why.Size) = event.Leaf path outcome.TooWide

-- what waits at a path
abbrev pub waits_at : {L : Type 0} → List (List ℕ × Met L) → List ℕ → Option (Met L)
waits_at waiting path = lookup (is_at (slice_cmp nat_cmp path)) waiting

-- there is room for the numbers of each path that waits, and for one more
abbrev pub HasRoom : {L : Type 0} → List (List ℕ × Met L) → ℕ → Type 0
HasRoom waiting room = (path : List ℕ) → IfSome (waits_at waiting path) (λ met. length path < room)

-- whether a walk that stands at the cursor is still to pass a path
abbrev pub is_ahead : Position → List ℕ → List ℕ → Bool
is_ahead Here cursor path = is_le (slice_cmp nat_cmp cursor path)
is_ahead Passed cursor path = is_lt (slice_cmp nat_cmp cursor path)
is_ahead Ended cursor path = false

-- the paths that a walk is to meet next
abbrev pub agenda_at : Position → List ℕ → List (List ℕ) → List (List ℕ)
agenda_at Here cursor later = cursor ∷ later
agenda_at Passed cursor later = later
agenda_at Ended cursor later = []

-- a walk that has ended stands at the root's path
abbrev pub IsHome : Position → List ℕ → Type 0
IsHome Here cursor = Unit {0}
IsHome Passed cursor = Unit {0}
IsHome Ended cursor = cursor ≡ []

module _ {L : Type 0} (events : List (Event L)) where
  -- the events that the walk is still to pass
  abbrev pub events_ahead : Notes L → List (Event L)
  events_ahead notes = filter (λ e. is_ahead notes.position notes.cursor (path_of e)) events

  -- the walk of a tree's events, at some place
  pub record IsWalk (notes : Notes L) : Type 0 where
    pub ascend : AllPairs (λ e f. IsBefore (path_of e) (path_of f)) events
    pub root : HasEventAt events []
    pub visits : Visits (agenda_at notes.position notes.cursor notes.later) (events_ahead notes)
    pub waiting : (path : List ℕ)
        → IfSome (waits_at notes.waiting path)
        (λ met. IsTrueEvent events (event_of path met)
        × (is_ahead notes.position notes.cursor path ≡ true))
    pub home : IsHome notes.position notes.cursor

  -- a collector of the key's events, at some place of its walk
  unfoldable pub IsCollector : Notes L → Type 0
  IsCollector notes = IsWalk notes

  -- the event at a path was noted: it waits, or the walk has passed it
  unfoldable pub IsNoted : Notes L → List ℕ → Type 0
  IsNoted notes path =
      IsSome (waits_at notes.waiting path)
      ⊎ (HasEventAt events path × (is_ahead notes.position notes.cursor path ≡ false))

  -- the part of the answer that is still to be handed out
  unfoldable pub to_give : Notes L → Answer L
  to_give notes = answer_of (events_ahead notes)

  -- what was noted still is, and what is to be handed out is the same
  unfoldable pub Keeps : Notes L → Notes L → Type 0
  Keeps old new =
      ((path : List ℕ) → IsNoted old path → IsNoted new path)
      × (to_give new ≡ to_give old)
