-- Sums over the passes of a deck.
use Rattle.std.proofs.Common.{◌≡◌, ◌≢◌, ℕ, zero, suc, ◌≤◌, List, [], ◌∷◌, ◌++◌, sym, refl, ap, arith}
use Rattle.std.specs.List.{AllByRecursion, sum_by}
use Rattle.std.proofs.lemmas.List.Sums.{sum_by-cons}
use mathlib.Core.Option.{some-injective, some-ne-none}
use Rattle.tally_laws.specs.Places.{HasAt, EachAt}

module _ {A : Type 0} where
  pub all_front : (P : A → Type 0) (xs ys : List A) → AllByRecursion P (xs ++ ys) → AllByRecursion P xs
  all_front P [] ys all = tt
  all_front P (x ∷ xs) ys all = (all.0, all_front P xs ys all.1)

  pub all_back : (P : A → Type 0) (xs ys : List A) → AllByRecursion P (xs ++ ys) → AllByRecursion P ys
  all_back P [] ys all = all
  all_back P (x ∷ xs) ys all = all_back P xs ys all.1

  -- an item weighs at most what all do
  pub weighs_within : (f : A → ℕ) (xs : List A) (place : ℕ) (x : A) → HasAt xs place x → f x ≤ sum_by f xs
  weighs_within f [] place x at = absurd (some-ne-none x (sym at))
  weighs_within f (y ∷ xs) zero x at =
      let same : f y ≡ f x = ap f (some-injective y x at) in omega (arith, sum_by-cons f y xs)
  weighs_within f (y ∷ xs) (suc place) x at =
      let rest : f x ≤ sum_by f xs = weighs_within f xs place x at in omega (arith, sum_by-cons f y xs)

  -- where all weigh nothing, so does the list
  pub none_weighs : (f : A → ℕ) (xs : List A) → EachAt (λ place x. f x ≡ 0) xs → sum_by f xs ≡ 0
  none_weighs f [] none = refl
  none_weighs f (x ∷ xs) none =
      let rest : sum_by f xs ≡ 0 = none_weighs f xs (λ place y at. none (suc place) y at) in
      let here : f x ≡ 0 = none 0 x refl in omega (arith, sum_by-cons f x xs)

  -- where one item has the whole weight by the first count, the others have none, and where such have
  -- none by the second, it has the whole weight by that too
  pub all_at_one : (f g : A → ℕ) (xs : List A) (place : ℕ) (x : A) → HasAt xs place x
      → sum_by f xs ≤ f x
      → ((other : ℕ) (y : A) → other ≢ place → HasAt xs other y → f y ≡ 0 → g y ≡ 0)
      → sum_by g xs ≡ g x
  all_at_one f g [] place x at whole none = absurd (some-ne-none x (sym at))
  all_at_one f g (y ∷ xs) zero x at whole none =
      let same : f y ≡ f x = ap f (some-injective y x at) in
      let mine : g y ≡ g x = ap g (some-injective y x at) in
      let less : sum_by f xs ≡ 0 = omega (arith, sum_by-cons f y xs) in
      let rest : sum_by g xs ≡ 0 =
      none_weighs g xs
      (λ other z at_z.
      none (suc other) z (λ is. omega arith) at_z
      (let part : f z ≤ sum_by f xs = weighs_within f xs other z at_z in omega arith)) in
      omega (arith, sum_by-cons g y xs)
  all_at_one f g (y ∷ xs) (suc place) x at whole none =
      let part : f x ≤ sum_by f xs = weighs_within f xs place x at in
      let here : f y ≡ 0 = omega (arith, sum_by-cons f y xs) in
      let gone : g y ≡ 0 = none 0 y (λ is. omega arith) refl here in
      let rest : sum_by g xs ≡ g x =
      all_at_one f g xs place x at (let first = sum_by-cons f y xs in omega (arith, first))
      (λ other z apart at_z. none (suc other) z (λ is. apart (let same : suc other ≡ suc place = is in omega arith)) at_z) in
      omega (arith, sum_by-cons g y xs)
