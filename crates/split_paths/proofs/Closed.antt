-- The key of a lawful root is closed, and its leaves are lawful.
use Rattle.std.proofs.Common.{◌≡◌, ℕ, zero, suc, ◌+◌, List, [], ◌∷◌, ◌++◌, refl, sym, subst, arith}
use Rattle.std.specs.List.{AllByRecursion, Contains, flat_map}
use Rattle.std.proofs.lemmas.List.Elements.{Contains-append_left, Contains-append_right}
use Rattle.split_paths.specs.declared.splitter.Step.{Step}
use Rattle.split_paths.specs.declared.splitter.Step.TheVariants.{Gone, Emit, TooWide, Kids}
use Rattle.split_paths.specs.Key.{IsClosedKey}
use Rattle.split_paths.specs.Lawful.{IsLawfulStep, IsLawfulEvent}
use Rattle.split_paths.specs.Places.{Place}
use Rattle.split_paths.specs.Tree.{event_here, numbered, children, event_at, children_of, preorder_below, events_of, offers_of}
use Rattle.split_paths.proofs.Lists.{all_append, all_weaker, all_flat_map, all_contains}
use Rattle.split_paths.proofs.OfferOrder.{itself}
use Rattle.split_paths.proofs.Runs.{all_in_run, runs_below}

module _ {T : Type 0} where
  steps_numbered : (path : List ℕ) (n i : ℕ) (kids : List T)
      → AllByRecursion (λ (kid : Place T). kid.steps ≡ n) (numbered path n i kids)
  steps_numbered path n i [] = tt
  steps_numbered path n i (kid ∷ kids) = (refl, steps_numbered path n (i + 1) kids)

  kids_in : (below : Place T → List (Place T)) (kids : List (Place T))
      → AllByRecursion (λ (kid : Place T). Contains (below kid) kid) kids
      → AllByRecursion (Contains (flat_map below kids)) kids
  kids_in below [] firsts = tt
  kids_in below (kid ∷ kids) firsts = (
    Contains-append_left (below kid) (flat_map below kids) kid firsts.0,
    all_weaker
        (Contains (flat_map below kids))
        (Contains (below kid ++ flat_map below kids))
        (λ other has. Contains-append_right (below kid) (flat_map below kids) other has)
        kids
        (kids_in below kids firsts.1),
  )

module _ {T L : Type 0} where
  pub steps_children : (path : List ℕ) (n : ℕ) (made : Step T L)
      → AllByRecursion (λ (kid : Place T). kid.steps ≡ n) (children path (suc n) made)
  steps_children path n Gone = tt
  steps_children path n (Emit leaf) = tt
  steps_children path n TooWide = tt
  steps_children path n (Kids []) = tt
  steps_children path n (Kids (only ∷ [])) = (refl, tt)
  steps_children path n (Kids (first ∷ second ∷ others)) = steps_numbered path n 1 (first ∷ second ∷ others)

  -- a place is the first of its own offers
  pub offers_itself : (step : T → Step T L) (n : ℕ) (path : List ℕ) (task : T)
      → Contains (preorder_below step itself n path task) (record { path = path; steps = n; task = task })
  offers_itself step zero path task = (0, omega arith, refl)
  offers_itself step (suc n) path task = (0, omega arith, refl)

  -- the children of a place are among its offers
  kids_offered : (step : T → Step T L) (n : ℕ) (path : List ℕ) (task : T)
      → AllByRecursion (Contains (preorder_below step itself n path task)) (children path n (step task))
  kids_offered step zero path task = tt
  kids_offered step (suc n) path task =
      all_weaker
      (Contains (flat_map (λ (kid : Place T). preorder_below step itself n kid.path kid.task) (children path (suc n) (step task))))
      (Contains (preorder_below step itself (suc n) path task))
      (λ kid has.
      Contains-append_right
      (record { path = path; steps = suc n; task = task } ∷ [])
      (flat_map (λ (kid : Place T). preorder_below step itself n kid.path kid.task) (children path (suc n) (step task)))
      kid has)
      (children path (suc n) (step task))
      (kids_in
      (λ (kid : Place T). preorder_below step itself n kid.path kid.task)
      (children path (suc n) (step task))
      (all_weaker
      (λ (kid : Place T). kid.steps ≡ n)
      (λ (kid : Place T). Contains (preorder_below step itself n kid.path kid.task) kid)
      (λ kid left.
      subst
      (λ (m : ℕ). Contains (preorder_below step itself n kid.path kid.task) (record { path = kid.path; steps = m; task = kid.task }))
      (sym left)
      (offers_itself step n kid.path kid.task))
      (children path (suc n) (step task))
      (steps_children path n (step task))))

  module _ (lawful_task : T → Type 0) (lawful_leaf : L → Type 0) where
    lawful_numbered : (path : List ℕ) (n i : ℕ) (kids : List T) → AllByRecursion lawful_task kids
        → AllByRecursion (λ (kid : Place T). lawful_task kid.task) (numbered path n i kids)
    lawful_numbered path n i [] lawful = tt
    lawful_numbered path n i (kid ∷ kids) lawful = (lawful.0, lawful_numbered path n (i + 1) kids lawful.1)

    pub lawful_children : (path : List ℕ) (n : ℕ) (made : Step T L) → IsLawfulStep lawful_task lawful_leaf made
        → AllByRecursion (λ (kid : Place T). lawful_task kid.task) (children path n made)
    lawful_children path zero made lawful = tt
    lawful_children path (suc n) Gone lawful = tt
    lawful_children path (suc n) (Emit leaf) lawful = tt
    lawful_children path (suc n) TooWide lawful = tt
    lawful_children path (suc n) (Kids []) lawful = tt
    lawful_children path (suc n) (Kids (only ∷ [])) lawful = (lawful.2.0, tt)
    lawful_children path (suc n) (Kids (first ∷ second ∷ others)) lawful =
        lawful_numbered path n 1 (first ∷ second ∷ others) lawful.2

    pub lawful_here : (path : List ℕ) (n : ℕ) (made : Step T L) → IsLawfulStep lawful_task lawful_leaf made
        → AllByRecursion (IsLawfulEvent lawful_leaf) (event_here path n made)
    lawful_here path zero made lawful = (tt, tt)
    lawful_here path (suc n) Gone lawful = (tt, tt)
    lawful_here path (suc n) (Emit leaf) lawful = (lawful, tt)
    lawful_here path (suc n) TooWide lawful = (tt, tt)
    lawful_here path (suc n) (Kids []) lawful = (tt, tt)
    lawful_here path (suc n) (Kids (only ∷ [])) lawful = tt
    lawful_here path (suc n) (Kids (first ∷ second ∷ others)) lawful = (tt, tt)

    module _ (step : T → Step T L)
        (keeps : (task : T) → lawful_task task → IsLawfulStep lawful_task lawful_leaf (step task)) where
      -- what holds of the own items of each lawful place holds of all below one
      lawful_below : {A : Type 0} (P : A → Type 0) (own : Place T → List A)
          → ((place : Place T) → lawful_task place.task → AllByRecursion P (own place))
          → (n : ℕ) (path : List ℕ) (task : T) → lawful_task task
          → AllByRecursion P (preorder_below step own n path task)
      lawful_below P own here zero path task lawful = here (record { path = path; steps = zero; task = task }) lawful
      lawful_below P own here (suc n) path task lawful =
          all_append P
          (own (record { path = path; steps = suc n; task = task }))
          (flat_map (λ (kid : Place T). preorder_below step own n kid.path kid.task) (children path (suc n) (step task)))
          (here (record { path = path; steps = suc n; task = task }) lawful)
          (all_flat_map P
          (λ (kid : Place T). preorder_below step own n kid.path kid.task)
          (children path (suc n) (step task))
          (all_weaker
          (λ (kid : Place T). lawful_task kid.task)
          (λ (kid : Place T). AllByRecursion P (preorder_below step own n kid.path kid.task))
          (λ kid of_kid. lawful_below P own here n kid.path kid.task of_kid)
          (children path (suc n) (step task))
          (lawful_children path (suc n) (step task) (keeps task lawful))))

      pub lawful_offers : (root : Place T) → lawful_task root.task
          → AllByRecursion (λ (offer : Place T). lawful_task offer.task) (offers_of step root)
      lawful_offers root lawful =
          lawful_below (λ (offer : Place T). lawful_task offer.task) itself (λ place of_place. (of_place, tt))
          root.steps root.path root.task lawful

      pub lawful_events : (root : Place T) → lawful_task root.task
          → AllByRecursion (IsLawfulEvent lawful_leaf) (events_of step root)
      lawful_events root lawful =
          lawful_below (IsLawfulEvent lawful_leaf) (event_at step)
          (λ place of_place. lawful_here place.path place.steps (step place.task) (keeps place.task of_place))
          root.steps root.path root.task lawful

      pub closed_tree : (root : Place T) → lawful_task root.task
          → IsClosedKey step lawful_task (events_of step root) (offers_of step root)
      closed_tree root lawful offer has =
          let offers_run = all_contains _ (offers_of step root) offer (runs_below step itself root.steps root.path root.task) has in
          let events_run = all_contains _ (offers_of step root) offer (runs_below step (event_at step) root.steps root.path root.task) has in
          record {
            task = all_contains (λ (other : Place T). lawful_task other.task) (offers_of step root) offer (lawful_offers root lawful) has;
            below = all_in_run (events_of step offer) (events_of step root) events_run;
            offered = all_in_run (offers_of step offer) (offers_of step root) offers_run;
            kids =
                all_weaker
                (Contains (offers_of step offer))
                (Contains (offers_of step root))
                (λ kid within. all_contains (Contains (offers_of step root)) (offers_of step offer) kid (all_in_run (offers_of step offer) (offers_of step root) offers_run) within)
                (children_of step offer)
                (kids_offered step offer.steps offer.path offer.task);
          }
