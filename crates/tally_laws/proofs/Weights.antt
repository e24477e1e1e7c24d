-- What lists that weigh the same have in common.
use Rattle.std.proofs.Common.{◌≡◌, ℕ, ◌+◌, ◌∙◌, sym, refl, List, [], ◌∷◌, length, arith, cond}
use Rattle.std.proofs.lemmas.List.Sums.{sum_by-cons}
use Rattle.std.specs.List.{sum_by}
use Rattle.tally_laws.specs.Laws.{WeightsMeasure, WeightsCount}

module _ {A : Type 0} where
  -- where each item weighs 1, a list weighs its length
  pub sum_by-one : (xs : List A) → sum_by (λ x. 1) xs ≡ length xs
  sum_by-one [] = refl
  sum_by-one (x ∷ xs) = let rest = sum_by-one xs in omega (arith, sum_by-cons (λ (y : A). 1) x xs)

  pub same_length : WeightsMeasure A
  same_length xs ys same = sym (sum_by-one xs) ∙ same (λ x. 1) ∙ sum_by-one ys

  pub same_count : WeightsCount A
  same_count test xs ys same = same (λ x. cond (test x) 1 0)
