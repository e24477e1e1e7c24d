-- What is below an offer stands one after the other in what is below the root.
use Rattle.std.proofs.Common.{◌≡◌, ℕ, zero, suc, List, [], ◌∷◌, ◌++◌, refl, sym, ap, ◌∙◌, append_assoc, append-nil, arith}
use Rattle.std.specs.List.{AllByRecursion, Contains, flat_map}
use Rattle.std.proofs.lemmas.List.Elements.{Contains-append_left, Contains-append_right}
use Rattle.split_paths.specs.declared.splitter.Step.{Step}
use Rattle.split_paths.specs.Laws.{IsRunOf}
use Rattle.split_paths.specs.Places.{Place}
use Rattle.split_paths.specs.Tree.{children, event_at, events_of, preorder_below, preorder, offers_of}
use Rattle.split_paths.proofs.Lists.{all_weaker, all_flat_map, all_contained, all_contains}
use Rattle.split_paths.proofs.Walks.{visits_tree}
use Rattle.split_paths.specs.declared.event.Event.{Event}
use Rattle.split_paths.specs.Walk.{Visits, HasEventAt}
use Rattle.split_paths.proofs.OfferOrder.{itself}

module _ {A : Type 0} where
  pub run_whole : (xs : List A) → IsRunOf xs xs
  run_whole xs = ([], [], sym (append-nil xs))

  pub run_left : (xs ys : List A) → IsRunOf xs (xs ++ ys)
  run_left xs ys = ([], ys, refl)

  pub run_right : (xs ys : List A) → IsRunOf ys (xs ++ ys)
  run_right xs ys = (xs, [], ap (λ (zs : List A). xs ++ zs) (sym (append-nil ys)))

  regroup : (c b xs a d : List A) → c ++ ((b ++ (xs ++ a)) ++ d) ≡ (c ++ b) ++ (xs ++ (a ++ d))
  regroup c b xs a d = simp append_assoc

  pub run_in : (xs ys zs : List A) → IsRunOf xs ys → IsRunOf ys zs → IsRunOf xs zs
  run_in xs ys zs (b, a, ys_is) (c, d, zs_is) =
      (c ++ b, a ++ d, zs_is ∙ (ap (λ (w : List A). c ++ (w ++ d)) ys_is ∙ regroup c b xs a d))

  -- a list contains each item of a run of it
  pub all_in_run : (xs ys : List A) → IsRunOf xs ys → AllByRecursion (Contains ys) xs
  all_in_run xs ys (b, a, ys_is) =
      all_weaker
      (Contains xs)
      (Contains ys)
      (λ x has. rw ys_is (Contains-append_right b (xs ++ a) x (Contains-append_left xs a x has)))
      xs
      (all_contained xs)

-- each piece of a list of pieces is a run of the whole
pub runs_flat_map : {X A : Type 0} (f : X → List A) (xs : List X)
    → AllByRecursion (λ x. IsRunOf (f x) (flat_map f xs)) xs
runs_flat_map f [] = tt
runs_flat_map f (x ∷ xs) = (
  run_left (f x) (flat_map f xs),
  all_weaker
      (λ y. IsRunOf (f y) (flat_map f xs))
      (λ y. IsRunOf (f y) (f x ++ flat_map f xs))
      (λ y within. run_in (f y) (flat_map f xs) (f x ++ flat_map f xs) within (run_right (f x) (flat_map f xs)))
      xs
      (runs_flat_map f xs),
)

pub runs_below : {T L A : Type 0} (step : T → Step T L) (own : Place T → List A) (n : ℕ) (path : List ℕ) (task : T)
    → AllByRecursion
    (λ (offer : Place T). IsRunOf (preorder step own offer) (preorder_below step own n path task))
    (preorder_below step itself n path task)
runs_below step own zero path task = (run_whole _, tt)
runs_below {T} step own (suc n) path task = (
  run_whole _,
  all_flat_map
      (λ (offer : Place T). IsRunOf (preorder step own offer) (preorder_below step own (suc n) path task))
      (λ (kid : Place T). preorder_below step itself n kid.path kid.task)
      (children path (suc n) (step task))
      (all_weaker
      (λ (kid : Place T).
      IsRunOf
      (preorder_below step own n kid.path kid.task)
      (flat_map (λ (kid : Place T). preorder_below step own n kid.path kid.task) (children path (suc n) (step task))))
      (λ (kid : Place T).
      AllByRecursion
      (λ (offer : Place T). IsRunOf (preorder step own offer) (preorder_below step own (suc n) path task))
      (preorder_below step itself n kid.path kid.task))
      (λ kid within.
      all_weaker
      (λ (offer : Place T). IsRunOf (preorder step own offer) (preorder_below step own n kid.path kid.task))
      (λ (offer : Place T). IsRunOf (preorder step own offer) (preorder_below step own (suc n) path task))
      (λ offer inner.
      run_in _ _ _ inner
      (run_in _ _ _ within
      (run_right
      (own (record { path = path; steps = suc n; task = task }))
      (flat_map (λ (kid : Place T). preorder_below step own n kid.path kid.task) (children path (suc n) (step task))))))
      (preorder_below step itself n kid.path kid.task)
      (runs_below step own n kid.path kid.task))
      (children path (suc n) (step task))
      (runs_flat_map
      (λ (kid : Place T). preorder_below step own n kid.path kid.task)
      (children path (suc n) (step task)))),
)

-- a walk that begins with a path meets an event there
met_first : {L : Type 0} (path : List ℕ) (events : List (Event L)) → Visits (path ∷ []) events → HasEventAt events path
met_first path [] met = let bad : path ∷ [] ≡ [] = met in cc
met_first path (event ∷ events) met = (event, (0, omega arith, refl), met.0)

-- the path of each offer has an event
pub event_at_offer : {T L : Type 0} (step : T → Step T L) (root offer : Place T)
    → Contains (offers_of step root) offer → HasEventAt (events_of step root) offer.path
event_at_offer step root offer has =
    let run = all_contains _ (offers_of step root) offer (runs_below step (event_at step) root.steps root.path root.task) has in
    let met = met_first offer.path (events_of step offer) (visits_tree step offer) in (
      met.0,
      all_contains (Contains (events_of step root)) (events_of step offer) met.0 (all_in_run (events_of step offer) (events_of step root) run) met.1,
      met.2,
    )
