-- The words of the laws on a tree of five tasks, and the law of the cover there.
use Rattle.std.proofs.Common.{◌≡◌, ℕ, zero, suc, ◌*◌, List, [], ◌∷◌, None, refl, arith}
use Rattle.std.specs.List.{Any}
use Rattle.split_paths.specs.declared.splitter.Step.{Step}
use Rattle.split_paths.specs.declared.splitter.Step.TheVariants.{Gone, Emit, Kids}
use Rattle.split_paths.specs.Answer.{answer_of}
use Rattle.split_paths.specs.Places.{Place}
use Rattle.split_paths.specs.Tree.{events_of}
use Rattle.tree_laws.specs.Points.{IsKeptBy, IfEmitted}
use Rattle.tree_laws.specs.Laws.{KeepsLaw}
use Rattle.tree_laws.proofs.Cover.{answers_cover_the_root}
use Rattle.tree_laws.proofs.Emitted.{answers_are_emitted}

-- 0 gives 1 and 2; 2 gives 3 alone; 1 and 3 are solved; of those from 4 on nothing is left
abbrev example_step : ℕ → Step ℕ ℕ
example_step zero = Kids (1 ∷ 2 ∷ [])
example_step (suc zero) = Emit 10
example_step (suc (suc zero)) = Kids (3 ∷ [])
example_step (suc (suc (suc zero))) = Emit 30
example_step (suc (suc (suc (suc task)))) = Gone

-- all tasks and leaves are lawful
abbrev IsAny : ℕ → Type 0
IsAny n = Unit {0}

-- the point of 0, 2 and 3, and of the leaf 30
abbrev HasPoint : ℕ → Type 0
HasPoint zero = Unit {0}
HasPoint (suc zero) = ⊥
HasPoint (suc (suc zero)) = Unit {0}
HasPoint (suc (suc (suc zero))) = Unit {0}
HasPoint (suc (suc (suc (suc task)))) = ⊥

abbrev IsThirty : ℕ → Type 0
IsThirty leaf = leaf ≡ 30

abbrev IsMultipleOfTen : ℕ → Type 0
IsMultipleOfTen leaf = (k : ℕ) × (leaf ≡ k * 10)

abbrev root : Place ℕ
root = record { path = []; steps = 9; task = 0 }

second_of_two : Any HasPoint (1 ∷ 2 ∷ [])
second_of_two = (1, 2, omega arith, refl, tt)

kept_in_a_child : IsKeptBy HasPoint IsThirty (example_step 0)
kept_in_a_child = second_of_two

not_in_the_other_leaf : IsKeptBy HasPoint IsThirty (example_step 1) → ⊥
not_in_the_other_leaf kept = cc

nothing_keeps_it : IsKeptBy HasPoint IsThirty (example_step 4) → ⊥
nothing_keeps_it kept = kept

emitted : IfEmitted IsMultipleOfTen (example_step 1)
emitted = (1, refl)

keeps_law : KeepsLaw example_step IsAny IsAny
keeps_law zero lawful = (omega arith, omega arith, (tt, (tt, tt)))
keeps_law (suc zero) lawful = tt
keeps_law (suc (suc zero)) lawful = (omega arith, omega arith, (tt, tt))
keeps_law (suc (suc (suc zero))) lawful = tt
keeps_law (suc (suc (suc (suc task)))) lawful = tt

loses_none : (task : ℕ) → IsAny task → HasPoint task → IsKeptBy HasPoint IsThirty (example_step task)
loses_none zero lawful has = second_of_two
loses_none (suc zero) lawful has = absurd has
loses_none (suc (suc zero)) lawful has = (0, 3, omega arith, refl, tt)
loses_none (suc (suc (suc zero))) lawful has = refl
loses_none (suc (suc (suc (suc task)))) lawful has = has

emits_multiples : (task : ℕ) → IsAny task → IfEmitted IsMultipleOfTen (example_step task)
emits_multiples zero lawful = tt
emits_multiples (suc zero) lawful = (1, refl)
emits_multiples (suc (suc zero)) lawful = tt
emits_multiples (suc (suc (suc zero))) lawful = (3, refl)
emits_multiples (suc (suc (suc (suc task)))) lawful = tt

answer : answer_of (events_of example_step root) ≡ record { chains = ((1 ∷ []), 10) ∷ ((2 ∷ []), 30) ∷ []; stop = None }
answer = refl

-- so a leaf of the answer has the point
covered : Any (λ (chain : List ℕ × ℕ). IsThirty chain.1) (answer_of (events_of example_step root)).chains
covered = answers_cover_the_root example_step IsAny IsAny HasPoint IsThirty keeps_law loses_none root tt tt refl

-- and each is a multiple of ten
multiples : IsMultipleOfTen 30
multiples = answers_are_emitted example_step IsAny IsAny IsMultipleOfTen keeps_law emits_multiples root tt ((2 ∷ []), 30) (1, omega arith, refl)
