-- Lawful steps and events.
use Rattle.std.specs.Prelude.{◌<◌, ◌^◌, length}
use Rattle.std.specs.List.{AllByRecursion}
use Rattle.split_paths.specs.declared.event.Event.{Event}
use Rattle.split_paths.specs.declared.event.Event.TheVariants.{Split, Leaf}
use Rattle.split_paths.specs.declared.event.Outcome.TheVariants as outcome
use Rattle.split_paths.specs.declared.splitter.Step.{Step}
use Rattle.split_paths.specs.declared.splitter.Step.TheVariants.{Gone, Emit, TooWide, Kids}

-- an emitted leaf is lawful; of children there is at least one and fewer than 2 ^ 32,
-- and each is lawful
abbrev pub IsLawfulStep : {T L : Type 0} → (T → Type 0) → (L → Type 0) → Step T L → Type 0
IsLawfulStep lawful_task lawful_leaf Gone = Unit {0}
IsLawfulStep lawful_task lawful_leaf (Emit leaf) = lawful_leaf leaf
IsLawfulStep lawful_task lawful_leaf TooWide = Unit {0}
IsLawfulStep lawful_task lawful_leaf (Kids kids) =
    (0 < length kids) × (length kids < 2 ^ 32) × AllByRecursion lawful_task kids

-- a leaf that was emitted is lawful
abbrev pub IsLawfulEvent : {L : Type 0} → (L → Type 0) → Event L → Type 0
IsLawfulEvent lawful_leaf (Split path kids) = Unit {0}
IsLawfulEvent lawful_leaf (Leaf path outcome.Gone) = Unit {0}
IsLawfulEvent lawful_leaf (Leaf path (outcome.Chain leaf)) = lawful_leaf leaf
IsLawfulEvent lawful_leaf (Leaf path outcome.Steps) = Unit {0}
IsLawfulEvent lawful_leaf (Leaf path outcome.TooWide) = Unit {0}
