-- A tree of four leaves, on which the tests work.
use Rattle.std.specs.Prelude.{ℕ, zero, suc, [], ◌∷◌}
use Rattle.split_paths.specs.declared.splitter.Step.{Step}
use Rattle.split_paths.specs.declared.splitter.Step.TheVariants.{Emit, Kids}
use Rattle.split_paths.specs.Places.{Place}

-- the root gives way to four children, and each child is its own leaf
abbrev pub fourfold : ℕ → Step ℕ ℕ
fourfold zero = Kids (1 ∷ 2 ∷ 3 ∷ 4 ∷ [])
fourfold (suc n) = Emit (suc n)

-- the root
abbrev pub fourfold_root : Place ℕ
fourfold_root = record { path = []; steps = 2; task = 0 }

-- a child
abbrev pub fourfold_child : ℕ → Place ℕ
fourfold_child n = record { path = n ∷ []; steps = 1; task = n }
