-- Trees in which no step has two children end.
use Rattle.std.proofs.Common.{◌≡◌, ℕ, zero, suc, ◌<◌, List, [], ◌∷◌, ◌++◌, None, refl, arith}
use Rattle.std.specs.List.{flat_map}
use Rattle.split_paths.specs.declared.event.Event.{Event}
use Rattle.split_paths.specs.declared.event.Event.TheVariants.{Split, Leaf}
use Rattle.split_paths.specs.declared.event.Outcome.TheVariants as outcome
use Rattle.split_paths.specs.declared.splitter.Step.{Step}
use Rattle.split_paths.specs.declared.splitter.Step.TheVariants.{Gone, Emit, TooWide, Kids}
use Rattle.split_paths.specs.Answer.{answer_of}
use Rattle.split_paths.specs.Places.{Place}
use Rattle.split_paths.specs.Tree.{event_here, children, event_at, preorder_below, events_of}

-- the step isn't too wide, and has no second child; an only child meets P
abbrev pub IsStraight : {T L : Type 0} → (T → Type 0) → Step T L → Type 0
IsStraight P Gone = Unit {0}
IsStraight P (Emit leaf) = Unit {0}
IsStraight P TooWide = ⊥
IsStraight P (Kids []) = Unit {0}
IsStraight P (Kids (only ∷ [])) = P only
IsStraight P (Kids (first ∷ second ∷ others)) = ⊥

-- a good task with less left to do than m
pub record IsGoodBelow
    {T : Type 0} (Good : T → Type 0) (size : T → ℕ) (m : ℕ) (task : T) : Type 0 where
  pub good : Good task
  pub less : size task < m

-- nothing more after events
unstopped_end : {L : Type 0} (events : List (Event L)) → (answer_of events).stop ≡ None → (answer_of (events ++ [])).stop ≡ None
unstopped_end [] on = on
unstopped_end (Split path kids ∷ events) on = unstopped_end events on
unstopped_end (Leaf path outcome.Gone ∷ events) on = unstopped_end events on
unstopped_end (Leaf path (outcome.Chain leaf) ∷ events) on = unstopped_end events on
unstopped_end (Leaf path outcome.Steps ∷ events) on = on
unstopped_end (Leaf path outcome.TooWide ∷ events) on = on

-- what holds of an only child, from what holds of it otherwise
pub straight_implied : {T L : Type 0} (P Q : T → Type 0) → ((x : T) → P x → Q x) → (made : Step T L) → IsStraight P made → IsStraight Q made
straight_implied P Q step Gone is = tt
straight_implied P Q step (Emit x) is = tt
straight_implied P Q step TooWide is = is
straight_implied P Q step (Kids []) is = tt
straight_implied P Q step (Kids (only ∷ [])) is = step only is
straight_implied P Q step (Kids (first ∷ second ∷ others)) is = is

module _ {T L : Type 0} (step : T → Step T L) (Good : T → Type 0) (size : T → ℕ) (straight : (task : T) → Good task → IsStraight (IsGoodBelow Good size (size task)) (step task)) where
  by_step : (n m : ℕ) (path : List ℕ) → m < suc n → (made : Step T L) → IsStraight (IsGoodBelow Good size m) made → ((kid : T) → Good kid → size kid < n → (answer_of (preorder_below step (event_at step) n path kid)).stop ≡ None) → (answer_of (event_here path (suc n) made ++ flat_map (λ (kid : Place T). preorder_below step (event_at step) n kid.path kid.task) (children path (suc n) made))).stop ≡ None
  by_step n m path low Gone is below = refl
  by_step n m path low (Emit leaf) is below = refl
  by_step n m path low TooWide is below = absurd is
  by_step n m path low (Kids []) is below = refl
  by_step n m path low (Kids (only ∷ [])) is below = unstopped_end (preorder_below step (event_at step) n path only) (below only is.good (let less = is.less in omega (arith, low, less)))
  by_step n m path low (Kids (first ∷ second ∷ others)) is below = absurd is

  ends : (n : ℕ) (path : List ℕ) (task : T) → Good task → size task < n → (answer_of (preorder_below step (event_at step) n path task)).stop ≡ None
  ends zero path task good low = absurd (omega (arith, low))
  ends (suc n) path task good low = by_step n (size task) path low (step task) (straight task good) (λ kid of_kid less. ends n path kid of_kid less)

-- where the steps of good tasks are straight to good tasks that have less left to do, more steps than
-- the first has left to do are enough
pub straight_trees_end : {T L : Type 0} (step : T → Step T L) (Good : T → Type 0) (size : T → ℕ) → ((task : T) → Good task → IsStraight (IsGoodBelow Good size (size task)) (step task)) → (root : Place T) → Good root.task → size root.task < root.steps → (answer_of (events_of step root)).stop ≡ None
straight_trees_end step Good size straight root good low = ends step Good size straight root.steps root.path root.task good low
