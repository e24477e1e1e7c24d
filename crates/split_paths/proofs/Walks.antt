-- The events of a tree are those of a walk.
use Rattle.std.proofs.Common.{ℕ, zero, suc, ◌+◌, List, [], ◌∷◌, ◌++◌, length, refl, subst, arith, append_assoc, append-nil}
use Rattle.std.specs.List.{flat_map}
use Rattle.split_paths.specs.declared.event.Event.{Event}
use Rattle.split_paths.specs.declared.splitter.Step.{Step}
use Rattle.split_paths.specs.declared.splitter.Step.TheVariants.{Gone, Emit, TooWide, Kids}
use Rattle.split_paths.specs.Places.{Place}
use Rattle.split_paths.specs.Tree.{event_here, numbered, children, event_at, preorder_below, events_of}
use Rattle.split_paths.specs.Walk.{numbered_paths, Visits}

module _ {T L : Type 0} where
  -- a walk that meets the events below a place goes on with the rest
  abbrev pub IsMet : (Place T → List (Event L)) → Type 0
  IsMet below =
      (place : Place T) (agenda : List (List ℕ)) (rest : List (Event L))
      → Visits agenda rest → Visits (place.path ∷ agenda) (below place ++ rest)

  visits_kids : (below : Place T → List (Event L)) (met : IsMet below) (path : List ℕ) (n i : ℕ)
      (kids : List T) (agenda : List (List ℕ)) (rest : List (Event L)) → Visits agenda rest
      → Visits (numbered_paths path i (length kids) ++ agenda) (flat_map below (numbered path n i kids) ++ rest)
  visits_kids below met path n i [] agenda rest on = on
  visits_kids below met path n i (kid ∷ kids) agenda rest on =
      rw append_assoc
      (met
      (record { path = path ++ i ∷ []; steps = n; task = kid })
      (numbered_paths path (i + 1) (length kids) ++ agenda)
      (flat_map below (numbered path n (i + 1) kids) ++ rest)
      (visits_kids below met path n (i + 1) kids agenda rest on))

  visits_made : (below : Place T → List (Event L)) (met : IsMet below) (path : List ℕ) (n : ℕ)
      (made : Step T L) (agenda : List (List ℕ)) (rest : List (Event L)) → Visits agenda rest
      → Visits (path ∷ agenda) ((event_here path (suc n) made ++ flat_map below (children path (suc n) made)) ++ rest)
  visits_made below met path n Gone agenda rest on = (refl, tt, on)
  visits_made below met path n (Emit leaf) agenda rest on = (refl, tt, on)
  visits_made below met path n TooWide agenda rest on = (refl, tt, on)
  visits_made below met path n (Kids []) agenda rest on = (refl, tt, on)
  visits_made below met path n (Kids (only ∷ [])) agenda rest on =
      rw append-nil (met (record { path = path; steps = n; task = only }) agenda rest on)
  visits_made below met path n (Kids (first ∷ second ∷ others)) agenda rest on =
      (refl, omega arith, visits_kids below met path n 1 (first ∷ second ∷ others) agenda rest on)

  visits_below : (step : T → Step T L) (n : ℕ) (path : List ℕ) (task : T) (agenda : List (List ℕ))
      (rest : List (Event L)) → Visits agenda rest
      → Visits (path ∷ agenda) (preorder_below step (event_at step) n path task ++ rest)
  visits_below step zero path task agenda rest on = (refl, tt, on)
  visits_below step (suc n) path task agenda rest on =
      visits_made
      (λ (kid : Place T). preorder_below step (event_at step) n kid.path kid.task)
      (λ (kid : Place T). visits_below step n kid.path kid.task)
      path n (step task) agenda rest on

  -- the events of a tree are those of a walk that begins with its root's path
  pub visits_tree : (step : T → Step T L) (root : Place T)
      → Visits (root.path ∷ []) (events_of step root)
  visits_tree step root =
      subst
      (λ (events : List (Event L)). Visits (root.path ∷ []) events)
      (append-nil (events_of step root))
      (visits_below step root.steps root.path root.task [] [] refl)
