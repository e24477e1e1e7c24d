-- Points of tasks and leaves, and steps that lose none.
use Rattle.std.specs.List.{Any}
use Rattle.split_paths.specs.declared.splitter.Step.{Step}
use Rattle.split_paths.specs.declared.splitter.Step.TheVariants.{Gone, Emit, TooWide, Kids}

-- a point, where a task and a leaf have it: the step leaves it in a child or in the leaf; a step
-- that is too wide may lose it
abbrev pub IsKeptBy : {T L : Type 0} → (T → Type 0) → (L → Type 0) → Step T L → Type 0
IsKeptBy in_task in_leaf Gone = ⊥
IsKeptBy in_task in_leaf (Emit leaf) = in_leaf leaf
IsKeptBy in_task in_leaf TooWide = Unit {0}
IsKeptBy in_task in_leaf (Kids kids) = Any in_task kids

-- what is emitted meets P
abbrev pub IfEmitted : {T L : Type 0} → (L → Type 0) → Step T L → Type 0
IfEmitted P Gone = Unit {0}
IfEmitted P (Emit leaf) = P leaf
IfEmitted P TooWide = Unit {0}
IfEmitted P (Kids kids) = Unit {0}
