-- The tree whose events are noted.
use Rattle.std.specs.Prelude.{ℕ, zero, suc, ◌+◌, [], ◌∷◌}
use Rattle.std.proofs.Common.{lit<}
use Rattle.split_paths.specs.declared.splitter.Step.{Step}
use Rattle.split_paths.specs.declared.splitter.Step.TheVariants.{Emit, Kids}
use Rattle.split_paths.specs.Lawful.{IsLawfulStep}
use Rattle.split_paths.specs.Places.{Place}

-- a task with levels below it gives way to two with one level fewer
abbrev pub halves : ℕ → Step ℕ ℕ
halves zero = Emit 0
halves (suc n) = Kids (n ∷ n ∷ [])

-- each step has children few enough
pub halves_is_lawful : (n : ℕ) → IsLawfulStep (λ _. Unit {0}) (λ _. Unit {0}) (halves n)
halves_is_lawful zero = tt
halves_is_lawful (suc n) = (lit< tt, lit< tt, (tt, (tt, tt)))

-- the root of a tree of so many levels, with the steps that its leaves need
abbrev pub top : ℕ → Place ℕ
top levels = record { path = []; steps = levels + 1; task = levels }
