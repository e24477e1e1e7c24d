-- Trees on which the walk is tried.
use Rattle.std.specs.Prelude.{ℕ, zero, suc, List, [], ◌∷◌, ◌++◌}
use Rattle.split_paths.specs.declared.event.Event.{Event}
use Rattle.split_paths.specs.declared.event.Event.TheVariants.{Split, Leaf}
use Rattle.split_paths.specs.declared.event.Outcome.TheVariants as outcome
use Rattle.split_paths.specs.declared.splitter.Step.{Step}
use Rattle.split_paths.specs.declared.splitter.Step.TheVariants.{Gone, Emit, Kids}
use Rattle.split_paths.specs.Places.{Place}

-- 0 is nothing, 1 is solved, 2 has both as children, and any other has 1, the number before it
-- and 0
abbrev pub brush : ℕ → Step ℕ ℕ
brush zero = Gone
brush (suc zero) = Emit 7
brush (suc (suc zero)) = Kids (0 ∷ 1 ∷ [])
brush (suc (suc (suc n))) = Kids (1 ∷ suc (suc n) ∷ 0 ∷ [])

-- the events of the tree below 2 and so many more, which stands at a path
unfoldable pub brush_events : List ℕ → ℕ → List (Event ℕ)
brush_events path zero =
    Split path 2
    ∷ Leaf (path ++ 1 ∷ []) outcome.Gone
    ∷ Leaf (path ++ 2 ∷ []) (outcome.Chain 7)
    ∷ []
brush_events path (suc n) =
    Split path 3
    ∷ Leaf (path ++ 1 ∷ []) (outcome.Chain 7)
    ∷ (brush_events (path ++ 2 ∷ []) n ++ Leaf (path ++ 3 ∷ []) outcome.Gone ∷ [])

-- 0 is nothing, 1 is solved, 2 has both as children, and any other has 2 and 0
abbrev pub fork : ℕ → Step ℕ ℕ
fork zero = Gone
fork (suc zero) = Emit 7
fork (suc (suc zero)) = Kids (0 ∷ 1 ∷ [])
fork (suc (suc (suc n))) = Kids (2 ∷ 0 ∷ [])

-- the events of the tree below 3
abbrev pub fork_events : List (Event ℕ)
fork_events =
    Split [] 2
    ∷ Split (1 ∷ []) 2
    ∷ Leaf (1 ∷ 1 ∷ []) outcome.Gone
    ∷ Leaf (1 ∷ 2 ∷ []) (outcome.Chain 7)
    ∷ Leaf (2 ∷ []) outcome.Gone
    ∷ []

-- a root at the empty path, with so many steps
abbrev pub root_at : ℕ → ℕ → Place ℕ
root_at steps task = record { path = []; steps = steps; task = task }
