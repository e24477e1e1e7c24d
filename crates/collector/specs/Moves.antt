-- What one move of a walk does to a collector.
use Rattle.std.specs.Prelude.{◌≡◌, ◌⊎◌, ◌<◌, ◌≤◌, ℕ, List, length, Option, Some, None}
use Rattle.split_paths.specs.declared.event.Event.{Event}
use Rattle.split_paths.specs.declared.event.Why.{Why}
use Rattle.split_paths.specs.Walk.{path_of, HasEventAt}
use Rattle.split_paths.specs.Key.{IsTrueEvent}
use Rattle.split_paths.specs.Paths.{IsBefore}
use Rattle.collector.specs.declared.advance.Advance.{Advance}
use Rattle.collector.specs.declared.met.Met.{Met}
use Rattle.collector.specs.declared.met.Met.TheVariants.{Split, Gone, Chain, Stop}
use Rattle.collector.specs.declared.met.Position.{Position}
use Rattle.collector.specs.declared.met.Position.TheVariants.{Here, Passed, Ended}
use Rattle.collector.specs.Advances.{Advances, IfWaits, UnlessWaits, IsFrom}
use Rattle.collector.specs.Notes.{Notes, IsCollector, IsNoted, Keeps, events_ahead, to_give}

-- what stops an answer, if this does
abbrev pub stop_of : {L : Type 0} → Met L → Option Why
stop_of (Split kids) = None
stop_of Gone = None
stop_of (Chain leaf) = None
stop_of (Stop why) = Some why

-- the walk stands before the event at its cursor, or has ended
abbrev pub IsSettled : Position → Type 0
IsSettled Here = Unit {0}
IsSettled Passed = ⊥
IsSettled Ended = Unit {0}

module _ {L : Type 0} (events : List (Event L)) where
  -- the same was noted
  pub record HasSameNotes (old new : Notes L) : Type 0 where
    pub notes : (path : List ℕ) → IsNoted events old path → IsNoted events new path
    pub only : (path : List ℕ) → IsNoted events new path → IsNoted events old path

  -- an event was noted, and nothing else
  pub record HasNoted (old new : Notes L) (event : Event L) : Type 0 where
    pub walk : IsCollector events new
    pub noted : IsNoted events new (path_of event)
    pub keeps : Keeps events old new
    pub only : (path : List ℕ) → IsNoted events new path
        → IsNoted events old path ⊎ (path ≡ path_of event)

  -- a walk that has handed out nothing
  pub record StaysSame (old new : Notes L) : Type 0 where
    pub walk : IsCollector events new
    pub noted : HasSameNotes old new
    pub gives : to_give events new ≡ to_give events old
    pub ahead : length (events_ahead events new) ≤ length (events_ahead events old)

  -- a walk that has handed out nothing, and passed an event
  pub record GoesOn (old new : Notes L) : Type 0 where
    pub stays : StaysSame old new
    pub fewer : length (events_ahead events new) < length (events_ahead events old)

  -- the first event of the tree, in path order, that is missing is the one at the cursor, and
  -- nothing of the answer that comes before it is still to be handed out
  pub record LacksFirst (notes : Notes L) : Type 0 where
    pub has : HasEventAt events notes.cursor
    pub missing : ¬ IsNoted events notes notes.cursor
    pub before : (event : Event L) → IsTrueEvent events event
        → IsBefore (path_of event) notes.cursor → IsNoted events notes (path_of event)
    pub ready : IsFrom notes.cursor (to_give events notes)

  -- what an advance does
  pub record HasAdvanced (old new : Notes L) (answer : Advance L) : Type 0 where
    pub walk : IsCollector events new
    pub noted : HasSameNotes old new
    pub items : Advances (to_give events old) (to_give events new) new.cursor answer
    pub waiting : IfWaits (LacksFirst new) answer
    pub known : UnlessWaits (IsNoted events new new.cursor) answer
