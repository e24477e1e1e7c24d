-- What a step of one task does to the places that wait behind it.
use Rattle.std.specs.Prelude.{◌≡◌, ◌<◌, ◌^◌, List, [], ◌∷◌, ◌++◌, length}
use Rattle.split_paths.specs.declared.event.Event.{Event}
use Rattle.split_paths.specs.declared.splitter.Step.{Step}
use Rattle.split_paths.specs.declared.splitter.Step.TheVariants.{Gone, Emit, TooWide, Kids}
use Rattle.split_paths.specs.Places.{Place}
use Rattle.generators.specs.declared.turn.Turn.{Turn}
use Rattle.generators.specs.declared.turn.Turn.TheVariants.{Quiet, Done}
use Rattle.generators.specs.declared.turn.Turn.TheVariants as turn

-- of children there is at least one, and fewer than 2 ^ 32
abbrev pub HasKidsThatFit : {T L : Type 0} → Step T L → Type 0
HasKidsThatFit Gone = Unit {0}
HasKidsThatFit (Emit leaf) = Unit {0}
HasKidsThatFit TooWide = Unit {0}
HasKidsThatFit (Kids kids) = (0 < length kids) × (length kids < 2 ^ 32)

-- these children wait in front now, and this is what was met
abbrev pub GivesWayTo : {T L : Type 0} → List (Place T) → List (Event L)
    → List (Place T) → List (Place T) → Turn L → Type 0
GivesWayTo kids met old new Quiet = (new ≡ kids ++ old) × (met ≡ [])
GivesWayTo kids met old new (turn.Event event) = (new ≡ kids ++ old) × (met ≡ event ∷ [])
GivesWayTo kids met old new Done = ⊥

-- nothing was met, and this child waits in front now
abbrev pub IsQuietWith : {T L : Type 0}
    → Place T → List (Place T) → List (Place T) → Turn L → Type 0
IsQuietWith only old new Quiet = new ≡ only ∷ old
IsQuietWith only old new (turn.Event event) = ⊥
IsQuietWith only old new Done = ⊥
