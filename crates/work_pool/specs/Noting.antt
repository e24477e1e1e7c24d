-- Events whose paths a collector has noted.
use Rattle.std.specs.Prelude.{List}
use Rattle.std.specs.List.{AllByRecursion}
use Rattle.collector.specs.Notes.{Notes, IsNoted, Keeps}
use Rattle.split_paths.specs.declared.event.Event.{Event}
use Rattle.split_paths.specs.Walk.{path_of}

module _ {L : Type 0} (events : List (Event L)) where
  -- the paths of these events were noted
  unfoldable pub AreNoted : Notes L → List (Event L) → Type 0
  AreNoted collector met = AllByRecursion (λ e. IsNoted events collector (path_of e)) met

  -- once what is left is noted, the whole is
  unfoldable pub Leads : Notes L → List (Event L) → List (Event L) → Type 0
  Leads collector left whole =
      (later : Notes L)
      → Keeps events collector later → AreNoted later left → AreNoted later whole
