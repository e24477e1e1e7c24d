-- Lists that weigh the same.
use Rattle.std.proofs.Common.{◌≡◌, ℕ, ◌+◌, List, [], ◌∷◌, ◌++◌, map, refl, sym, ap, ◌∙◌, arith}
use Rattle.std.proofs.lemmas.List.Sums.{sum_by-cons, sum_by-append}
use Rattle.std.specs.List.{sum_by, flat_map}
use Rattle.tally_laws.specs.Weights.{WeighTheSame}

-- lists of items weigh what their parts weigh
pub weigh_parts : {X A : Type 0} (h : A → ℕ) (f : X → List A) (xs : List X)
    → sum_by h (flat_map f xs) ≡ sum_by (λ x. sum_by h (f x)) xs
weigh_parts h f [] = refl
weigh_parts h f (x ∷ xs) =
    let cut = sum_by-append h (f x) (flat_map f xs) in
    let first = sum_by-cons (λ y. sum_by h (f y)) x xs in
    let rest = weigh_parts h f xs in omega arith

-- lists that weigh the same have parts that weigh the same
pub parts_weigh_the_same : {X A : Type 0} (f : X → List A) (xs ys : List X)
    → WeighTheSame xs ys → WeighTheSame (flat_map f xs) (flat_map f ys)
parts_weigh_the_same f xs ys same h =
    weigh_parts h f xs ∙ (same (λ x. sum_by h (f x)) ∙ sym (weigh_parts h f ys))
