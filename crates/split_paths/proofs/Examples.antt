-- A worked tree of seven tasks: its events, its offers, its answer and its steps to come.
use Rattle.std.proofs.Common.{◌≡◌, ℕ, zero, suc, [], ◌∷◌, Some, refl}
use Rattle.split_paths.specs.declared.event.Event.TheVariants.{Split, Leaf}
use Rattle.split_paths.specs.declared.event.Outcome.TheVariants as outcome
use Rattle.split_paths.specs.declared.event.Why.TheVariants as why
use Rattle.split_paths.specs.declared.splitter.Step.{Step}
use Rattle.split_paths.specs.declared.splitter.Step.TheVariants.{Gone, Emit, TooWide, Kids}
use Rattle.split_paths.specs.Answer.{answer_of}
use Rattle.split_paths.specs.Places.{Place}
use Rattle.split_paths.specs.Tree.{events_of, offers_of, steps_to_come}

-- 0 gives 1 and 2; 1 gives 3 alone; 2 gives 4, 5 and 6; 3 and 6 are solved; 5 doesn't fit
example_step : ℕ → Step ℕ ℕ
example_step zero = Kids (1 ∷ 2 ∷ [])
example_step (suc zero) = Kids (3 ∷ [])
example_step (suc (suc zero)) = Kids (4 ∷ 5 ∷ 6 ∷ [])
example_step (suc (suc (suc zero))) = Emit 30
example_step (suc (suc (suc (suc zero)))) = Gone
example_step (suc (suc (suc (suc (suc zero))))) = TooWide
example_step (suc (suc (suc (suc (suc (suc task)))))) = Emit 60

abbrev root : ℕ → Place ℕ
root steps = record { path = []; steps = steps; task = 0 }

events_with_steps_enough : events_of example_step (root 4)
    ≡ Split [] 2
    ∷ Leaf (1 ∷ []) (outcome.Chain 30)
    ∷ Split (2 ∷ []) 3
    ∷ Leaf (2 ∷ 1 ∷ []) outcome.Gone
    ∷ Leaf (2 ∷ 2 ∷ []) outcome.TooWide
    ∷ Leaf (2 ∷ 3 ∷ []) (outcome.Chain 60)
    ∷ []
unfolding example_step
events_with_steps_enough = refl

events_with_steps_too_few : events_of example_step (root 2)
    ≡ Split [] 2
    ∷ Leaf (1 ∷ []) outcome.Steps
    ∷ Split (2 ∷ []) 3
    ∷ Leaf (2 ∷ 1 ∷ []) outcome.Steps
    ∷ Leaf (2 ∷ 2 ∷ []) outcome.Steps
    ∷ Leaf (2 ∷ 3 ∷ []) outcome.Steps
    ∷ []
unfolding example_step
events_with_steps_too_few = refl

offers_in_path_order : offers_of example_step (root 2)
    ≡ root 2
    ∷ record { path = 1 ∷ []; steps = 1; task = 1 }
    ∷ record { path = 1 ∷ []; steps = 0; task = 3 }
    ∷ record { path = 2 ∷ []; steps = 1; task = 2 }
    ∷ record { path = 2 ∷ 1 ∷ []; steps = 0; task = 4 }
    ∷ record { path = 2 ∷ 2 ∷ []; steps = 0; task = 5 }
    ∷ record { path = 2 ∷ 3 ∷ []; steps = 0; task = 6 }
    ∷ []
unfolding example_step
offers_in_path_order = refl

answer_stops_at_the_wide_leaf : answer_of (events_of example_step (root 4))
    ≡ record { chains = ((1 ∷ []), 30) ∷ []; stop = Some ((2 ∷ 2 ∷ []), why.Size) }
unfolding example_step
answer_stops_at_the_wide_leaf = refl

seven_steps_are_made : steps_to_come example_step (root 4 ∷ []) ≡ 7
unfolding example_step
seven_steps_are_made = refl

three_steps_are_made : steps_to_come example_step (root 2 ∷ []) ≡ 3
unfolding example_step
three_steps_are_made = refl
