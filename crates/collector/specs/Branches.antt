-- A path of a tree, with what a walk in path order meets after it.
use Rattle.std.specs.Prelude.{ℕ, ◌+◌, ◌-◌, List, [], ◌∷◌, ◌++◌}
use Rattle.split_paths.specs.Walk.{numbered_paths}

-- a path, the paths of later children on the way to it, those of the deepest split first, and how
-- many numbers there is room for
pub record Agenda : Type 0 where
  pub path : List ℕ
  pub later : List (List ℕ)
  pub room : ℕ

-- below this front, the paths of later children on the way of these numbers, each of so many
abbrev pub later_below : List ℕ → List ℕ → List ℕ → List (List ℕ)
later_below front [] counts = []
later_below front (i ∷ is) [] = []
later_below front (i ∷ is) (n ∷ ns) =
    later_below (front ++ i ∷ []) is ns ++ numbered_paths front (i + 1) (n - i)
