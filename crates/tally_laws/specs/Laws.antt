-- The laws of weights.
use Rattle.std.specs.Prelude.{◌≡◌, ℕ, ◌+◌, Bool, List, [], ◌∷◌, length, slice_set, count_by}
use Rattle.std.specs.List.{sum_by}
use Rattle.tally_laws.specs.Places.{HasAt}
use Rattle.tally_laws.specs.Weights.{WeighTheSame}

-- where one item changes, the sum loses its weight and gains that of the new one
abbrev pub SumMovesAtSet : Type 0 → Type 0
SumMovesAtSet A =
    (weight : A → ℕ) (xs : List A) (place : ℕ) (old new : A)
    → HasAt xs place old
    → sum_by weight (slice_set xs place new) + weight old ≡ sum_by weight xs + weight new

-- lists that weigh the same are equally long
abbrev pub WeightsMeasure : Type 0 → Type 0
WeightsMeasure A = (xs ys : List A) → WeighTheSame xs ys → length xs ≡ length ys

-- lists that weigh the same have equally many items that pass a test
abbrev pub WeightsCount : Type 0 → Type 0
WeightsCount A =
    (test : A → Bool) (xs ys : List A) → WeighTheSame xs ys → count_by test xs ≡ count_by test ys
