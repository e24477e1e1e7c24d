-- Steps that lose no point of a task.
use Rattle.std.specs.Prelude.{ℕ, List, []}
use Rattle.std.specs.List.{Any}
use Rattle.zero_sets.specs.Domains.{Tables, IsPointOver}
use Rattle.zero_sets.specs.Tasks.{Task, InTask}
use Rattle.split_paths.specs.declared.splitter.Step.{Step}
use Rattle.split_paths.specs.declared.splitter.Step.TheVariants.{Gone, Emit, TooWide, Kids}

-- each point of the task, over each finite domain of the characteristic p, is one of some of the
-- tasks
abbrev pub AreCovering : ℕ → Task → List Task → Type 0
AreCovering p task kids =
    (r : Tables) (xs : List ℕ) → IsPointOver p r xs → InTask r xs task → Any (InTask r xs) kids

-- the children cover the task, which has no points where it is gone; no leaf is emitted, and where
-- a product doesn't fit nothing is said
abbrev pub CoversTask : {L : Type 0} → ℕ → Task → Step Task L → Type 0
CoversTask p task Gone = AreCovering p task []
CoversTask p task (Emit leaf) = ⊥
CoversTask p task TooWide = Unit {0}
CoversTask p task (Kids kids) = AreCovering p task kids
