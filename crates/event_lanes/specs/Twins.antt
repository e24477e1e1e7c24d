-- A tree of two leaves, on which the tests work.
use Rattle.std.specs.Prelude.{ℕ, zero, suc, [], ◌∷◌}
use Rattle.split_paths.specs.declared.event.Event.{Event}
use Rattle.split_paths.specs.declared.event.Event.TheVariants.{Leaf}
use Rattle.split_paths.specs.declared.event.Outcome.TheVariants.{Chain}
use Rattle.split_paths.specs.declared.splitter.Step.{Step}
use Rattle.split_paths.specs.declared.splitter.Step.TheVariants.{Emit, Kids}
use Rattle.split_paths.specs.Places.{Place}

-- the root gives way to two children, and each child is its own leaf
abbrev pub twins : ℕ → Step ℕ ℕ
twins zero = Kids (1 ∷ 2 ∷ [])
twins (suc n) = Emit (suc n)

-- the root
abbrev pub twin_root : Place ℕ
twin_root = record { path = []; steps = 2; task = 0 }

-- the event of a child
abbrev pub twin : ℕ → Event ℕ
twin n = Leaf (n ∷ []) (Chain n)
