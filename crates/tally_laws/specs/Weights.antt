-- Lists that have the same items, each as often.
use Rattle.std.specs.Prelude.{◌≡◌, ℕ, List}
use Rattle.std.specs.List.{sum_by}

-- however their items are weighed, the two lists weigh the same
abbrev pub WeighTheSame : {A : Type 0} → List A → List A → Type 0
WeighTheSame {A} xs ys = (weight : A → ℕ) → sum_by weight xs ≡ sum_by weight ys
