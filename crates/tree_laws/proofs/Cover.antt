-- The answer of a tree whose steps lose no point has the points of the root.
use Rattle.std.proofs.Common.{◌≡◌, ℕ, zero, suc, ◌+◌, inl, inr, List, [], ◌∷◌, ◌++◌, None}
use Rattle.std.specs.List.{AllByRecursion, Any, flat_map}
use Rattle.split_paths.specs.declared.event.Event.{Event}
use Rattle.split_paths.specs.declared.splitter.Step.{Step}
use Rattle.split_paths.specs.declared.splitter.Step.TheVariants.{Gone, Emit, TooWide, Kids}
use Rattle.split_paths.specs.Answer.{answer_of}
use Rattle.split_paths.specs.Lawful.{IsLawfulStep}
use Rattle.split_paths.specs.Places.{Place}
use Rattle.split_paths.specs.Tree.{event_here, numbered, children, event_at, preorder_below}
use Rattle.split_paths.proofs.Closed.{lawful_children}
use Rattle.tree_laws.specs.Points.{IsKeptBy}
use Rattle.tree_laws.specs.Laws.{KeepsLaw, AnswersCoverTheRoot}
use Rattle.tree_laws.proofs.Some.{some_first, some_right, some_nowhere, some_cases}
use Rattle.tree_laws.proofs.Joined.{first_unstopped, second_unstopped, some_of_first, some_of_second}

module _ {T L : Type 0} (step : T → Step T L) (lawful_task : T → Type 0) (lawful_leaf : L → Type 0) (in_task : T → Type 0) (in_leaf : L → Type 0) where
  -- a leaf of these events has the point
  abbrev IsFound : List (Event L) → Type 0
  IsFound events = Any (λ (chain : List ℕ × L). in_leaf chain.1) (answer_of events).chains

  -- if they aren't stopped
  abbrev IsCovered : List (Event L) → Type 0
  IsCovered events = (answer_of events).stop ≡ None → IsFound events

  -- what is below a place with the point is covered, then what is below several, one of which has it
  covered_flat_map : (below : Place T → List (Event L)) → ((kid : Place T) → lawful_task kid.task → in_task kid.task → IsCovered (below kid)) → (kids : List (Place T)) → AllByRecursion (λ (kid : Place T). lawful_task kid.task) kids → Any (λ (kid : Place T). in_task kid.task) kids → IsCovered (flat_map below kids)
  covered_flat_map below each [] lawful some on = absurd (some_nowhere (λ (kid : Place T). in_task kid.task) some)
  covered_flat_map below each (kid ∷ kids) lawful some on = elim (some_cases (λ (other : Place T). in_task other.task) kid kids some) [
    | inl here ↦ some_of_first (λ (chain : List ℕ × L). in_leaf chain.1) (below kid) (flat_map below kids) (each kid lawful.0 here (first_unstopped (below kid) (flat_map below kids) on))
    | inr later ↦ some_of_second (λ (chain : List ℕ × L). in_leaf chain.1) (below kid) (flat_map below kids) (first_unstopped (below kid) (flat_map below kids) on) (covered_flat_map below each kids lawful.1 later (second_unstopped (below kid) (flat_map below kids) on))
  ]

  -- a child with the point keeps it where children are numbered
  some_numbered : (path : List ℕ) (n i : ℕ) (kids : List T) → Any in_task kids → Any (λ (kid : Place T). in_task kid.task) (numbered path n i kids)
  some_numbered path n i [] some = absurd (some_nowhere in_task some)
  some_numbered path n i (kid ∷ kids) some = elim (some_cases in_task kid kids some) [
    | inl here ↦ some_first (λ (other : Place T). in_task other.task) (record { path = path ++ i ∷ []; steps = n; task = kid }) (numbered path n (i + 1) kids) here
    | inr later ↦ some_right (λ (other : Place T). in_task other.task) (record { path = path ++ i ∷ []; steps = n; task = kid } ∷ []) (numbered path n (i + 1) kids) (some_numbered path n (i + 1) kids later)
  ]

  -- by what the step makes
  covered_by_step : (below : Place T → List (Event L)) → ((kid : Place T) → lawful_task kid.task → in_task kid.task → IsCovered (below kid)) → (path : List ℕ) (n : ℕ) (made : Step T L) → IsLawfulStep lawful_task lawful_leaf made → IsKeptBy in_task in_leaf made → IsCovered (event_here path (suc n) made ++ flat_map below (children path (suc n) made))
  covered_by_step below each path n Gone lawful kept on = absurd kept
  covered_by_step below each path n (Emit leaf) lawful kept on = some_first (λ (chain : List ℕ × L). in_leaf chain.1) (path, leaf) [] kept
  covered_by_step below each path n TooWide lawful kept on = cc
  covered_by_step below each path n (Kids []) lawful kept on = absurd (some_nowhere in_task kept)
  covered_by_step below each path n (Kids (only ∷ [])) lawful kept on = elim (some_cases in_task only [] kept) [
    | inl here ↦ covered_flat_map below each (record { path = path; steps = n; task = only } ∷ []) (lawful.2.0, tt) (some_first (λ (kid : Place T). in_task kid.task) (record { path = path; steps = n; task = only }) [] here) on
    | inr later ↦ absurd (some_nowhere in_task later)
  ]
  covered_by_step below each path n (Kids (first ∷ second ∷ others)) lawful kept on = covered_flat_map below each (numbered path n 1 (first ∷ second ∷ others)) (lawful_children lawful_task lawful_leaf path (suc n) (Kids (first ∷ second ∷ others)) lawful) (some_numbered path n 1 (first ∷ second ∷ others) kept) on

  module _ (keeps : KeepsLaw step lawful_task lawful_leaf) (loses_none : (task : T) → lawful_task task → in_task task → IsKeptBy in_task in_leaf (step task)) where
    covered_below : (n : ℕ) (path : List ℕ) (task : T) → lawful_task task → in_task task → IsCovered (preorder_below step (event_at step) n path task)
    covered_below zero path task lawful has on = cc
    covered_below (suc n) path task lawful has on = covered_by_step (λ (kid : Place T). preorder_below step (event_at step) n kid.path kid.task) (λ kid of_kid in_kid. covered_below n kid.path kid.task of_kid in_kid) path n (step task) (keeps task lawful) (loses_none task lawful has) on

  -- the law of the cover
  pub answers_cover_the_root : AnswersCoverTheRoot step lawful_task lawful_leaf in_task in_leaf
  answers_cover_the_root keeps loses_none root lawful has on = covered_below keeps loses_none root.steps root.path root.task lawful has on
