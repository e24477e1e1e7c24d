-- The offers of a tree stand in path order, and on one path with falling steps.
use Rattle.std.proofs.Common.{ℕ, zero, suc, ◌<◌, ◌≤◌, inl, inr, List, [], ◌∷◌, refl, sym, ◌∙◌, arith, append-nil}
use Rattle.std.specs.List.{AllByRecursion, flat_map}
use Rattle.split_paths.specs.declared.splitter.Step.{Step}
use Rattle.split_paths.specs.declared.splitter.Step.TheVariants.{Gone, Emit, TooWide, Kids}
use Rattle.split_paths.specs.Laws.{ComesBefore}
use Rattle.split_paths.specs.Places.{Place}
use Rattle.split_paths.specs.Tree.{numbered, children, preorder_below, offers_of}
use Rattle.split_paths.proofs.Lists.{all_append, all_weaker, all_always, all_flat_map, all_both, Ascends}
use Rattle.split_paths.proofs.Orders.{IsUnder, IsFrom, StaysUnder, before_below, from_kids, under_below, ascends_below}

module _ {T : Type 0} where
  -- a place itself, as the offer that it makes
  abbrev pub itself : Place T → List (Place T)
  itself place = place ∷ []

  -- on one path there are fewer steps left below
  comes_before : (place offer : Place T) → IsUnder place.path offer.path → offer.steps < place.steps
      → ComesBefore place offer
  comes_before place offer ([], path_is) fewer = inr (sym (path_is ∙ append-nil place.path), fewer)
  comes_before place offer (i ∷ rest, path_is) fewer =
      inl (before_below place.path i offer.path (i, rest, omega arith, path_is))

module _ {T L : Type 0} where
  few_below : (step : T → Step T L) (n : ℕ) (path : List ℕ) (task : T)
      → AllByRecursion (λ (offer : Place T). offer.steps ≤ n) (preorder_below step itself n path task)
  few_below step zero path task = (omega arith, tt)
  few_below step (suc n) path task = (
    omega arith,
    all_flat_map
        (λ (offer : Place T). offer.steps ≤ suc n)
        (λ (kid : Place T). preorder_below step itself n kid.path kid.task)
        (children path (suc n) (step task))
        (all_always
        (λ (kid : Place T). AllByRecursion (λ (offer : Place T). offer.steps ≤ suc n) (preorder_below step itself n kid.path kid.task))
        (λ kid.
        all_weaker
        (λ (offer : Place T). offer.steps ≤ n)
        (λ (offer : Place T). offer.steps ≤ suc n)
        (λ offer few. omega arith)
        (preorder_below step itself n kid.path kid.task)
        (few_below step n kid.path kid.task))
        (children path (suc n) (step task))),
  )

  first_here : (below : Place T → List (Place T)) → StaysUnder (λ (o : Place T). o.path) itself below
      → (n : ℕ) → ((place : Place T) → AllByRecursion (λ (offer : Place T). offer.steps ≤ n) (below place))
      → (path : List ℕ) (task : T) (made : Step T L)
      → AllByRecursion
      (λ (offer : Place T). ComesBefore (record { path = path; steps = suc n; task = task }) offer)
      (flat_map below (children path (suc n) made))
  first_here below stays n few path task Gone = tt
  first_here below stays n few path task (Emit leaf) = tt
  first_here below stays n few path task TooWide = tt
  first_here below stays n few path task (Kids []) = tt
  first_here below stays n few path task (Kids (only ∷ [])) =
      all_append
      (λ (offer : Place T). ComesBefore (record { path = path; steps = suc n; task = task }) offer)
      (below (record { path = path; steps = n; task = only }))
      []
      (all_both
      (λ (offer : Place T). IsUnder path offer.path)
      (λ (offer : Place T). offer.steps ≤ n)
      (λ (offer : Place T). ComesBefore (record { path = path; steps = suc n; task = task }) offer)
      (λ offer under few_left.
      comes_before (record { path = path; steps = suc n; task = task }) offer under (omega arith))
      (below (record { path = path; steps = n; task = only }))
      (stays (record { path = path; steps = n; task = only }))
      (few (record { path = path; steps = n; task = only })))
      tt
  first_here below stays n few path task (Kids (first ∷ second ∷ others)) =
      all_weaker
      (λ (offer : Place T). IsFrom path 1 offer.path)
      (λ (offer : Place T). ComesBefore (record { path = path; steps = suc n; task = task }) offer)
      (λ offer from. inl (before_below path 1 offer.path from))
      (flat_map below (numbered path n 1 (first ∷ second ∷ others)))
      (from_kids (λ (o : Place T). o.path) itself below stays path n 1 (first ∷ second ∷ others))

  pub offers_ascend : (step : T → Step T L) (root : Place T) → Ascends (λ (o p : Place T). ComesBefore o p) (offers_of step root)
  offers_ascend step root =
      ascends_below
      (λ (o : Place T). o.path)
      itself
      (λ (o p : Place T). ComesBefore o p)
      step
      (λ place. (refl, tt))
      (λ o p less. inl less)
      (λ place. (tt, tt))
      (λ n path task. (
        first_here
            (λ (kid : Place T). preorder_below step itself n kid.path kid.task)
            (λ (kid : Place T). under_below (λ (o : Place T). o.path) itself step (λ place. (refl, tt)) n kid.path kid.task)
            n
            (λ (kid : Place T). few_below step n kid.path kid.task)
            path task (step task),
        tt,
      ))
      root.steps root.path root.task
