-- What is below a place is its own, and then what is below each of its children.
use Rattle.std.proofs.Common.{◌≡◌, ℕ, zero, suc, List, [], ◌∷◌, ◌++◌, sym, ap, ap₂, append-nil, refl}
use Rattle.std.specs.List.{AllByRecursion, flat_map}
use Rattle.split_paths.specs.declared.splitter.Step.{Step}
use Rattle.split_paths.specs.Places.{Place}
use Rattle.split_paths.specs.Tree.{children, children_of, preorder_below, preorder}
use Rattle.split_paths.proofs.Closed.{steps_children}
use Rattle.split_paths.proofs.Lists.{all_weaker}

flat_map_same : {X A : Type 0} (f g : X → List A) (xs : List X)
    → AllByRecursion (λ x. f x ≡ g x) xs → flat_map f xs ≡ flat_map g xs
flat_map_same f g [] same = refl
flat_map_same f g (x ∷ xs) same = ap₂ ◌++◌ same.0 (flat_map_same f g xs same.1)

unfolds_below : {T L A : Type 0} (step : T → Step T L) (own : Place T → List A) (n : ℕ) (path : List ℕ) (task : T)
    → preorder_below step own n path task
    ≡ own (record { path = path; steps = n; task = task })
    ++ flat_map (preorder step own) (children path n (step task))
unfolds_below step own zero path task = sym (append-nil (own (record { path = path; steps = zero; task = task })))
unfolds_below {T} {A = A} step own (suc n) path task =
    ap
    (λ (below : List A). own (record { path = path; steps = suc n; task = task }) ++ below)
    (flat_map_same
    (λ (kid : Place T). preorder_below step own n kid.path kid.task)
    (preorder step own)
    (children path (suc n) (step task))
    (all_weaker
    (λ (kid : Place T). kid.steps ≡ n)
    (λ (kid : Place T). preorder_below step own n kid.path kid.task ≡ preorder step own kid)
    (λ kid left. ap (λ (m : ℕ). preorder_below step own m kid.path kid.task) (sym left))
    (children path (suc n) (step task))
    (steps_children path n (step task))))

pub preorder_unfolds : {T L A : Type 0} (step : T → Step T L) (own : Place T → List A) (place : Place T)
    → preorder step own place ≡ own place ++ flat_map (preorder step own) (children_of step place)
preorder_unfolds step own place = unfolds_below step own place.steps place.path place.task
