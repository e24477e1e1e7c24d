-- What holds at each place of a list, where an item changes or joins.
use Rattle.std.proofs.Common.{◌≡◌, ◌≢◌, ℕ, zero, suc, List, [], ◌∷◌, ◌++◌, length, set, sym, ap, arith, ⊎_elim, ◌⊎◌, inl, inr, ◌+◌, refl, subst}
use Rattle.std.specs.List.{sum_by}
use Rattle.std.proofs.lemmas.List.Sums.{sum_by-cons}
use Rattle.atomic_table.proofs.Lists.{at_set}
use lib.ListN.{get_elem?}
use mathlib.Core.Option.{some, some-injective, some-ne-none}
use Rattle.tally_laws.specs.Laws.{SumMovesAtSet}
use Rattle.tally_laws.specs.Places.{HasAt, EachAt}

module _ {A : Type 0} where
  -- where one item changes, and the new one is so, each is so if each other was
  pub each_set : (IsSo : ℕ → A → Type 0) (xs : List A) (place : ℕ) (new : A)
      → IsSo place new
      → ((other : ℕ) (x : A) → other ≢ place → HasAt xs other x → IsSo other x)
      → EachAt IsSo (set xs place new)
  each_set IsSo xs place new mine others other x at =
      ⊎_elim
      (λ (same : (other ≡ place) × (new ≡ x)).
      subst (λ (y : ℕ × A). IsSo y.0 y.1) (λ i. (sym same.0 i, same.1 i)) mine)
      (λ (apart : (other ≢ place) × HasAt xs other x). others other x apart.0 apart.1)
      (at_set xs place other new x at)

  -- an item of a longer list is one of the list, or the new one at its end
  pub at_end : (xs : List A) (new x : A) (place : ℕ) → HasAt (xs ++ new ∷ []) place x
      → HasAt xs place x ⊎ ((place ≡ length xs) × (new ≡ x))
  at_end [] new x zero at = inr (refl, some-injective new x at)
  at_end [] new x (suc place) at = absurd (some-ne-none x (sym at))
  at_end (y ∷ xs) new x zero at = inl at
  at_end (y ∷ xs) new x (suc place) at =
      ⊎_elim (λ there. inl there) (λ end. inr (ap suc end.0, end.1)) (at_end xs new x place at)

  -- where one item joins at the end, each is so if each was and the new one is
  pub each_end : (IsSo : ℕ → A → Type 0) (xs : List A) (new : A)
      → EachAt IsSo xs
      → IsSo (length xs) new
      → EachAt IsSo (xs ++ new ∷ [])
  each_end IsSo xs new each last place x at =
      ⊎_elim
      (λ (there : HasAt xs place x). each place x there)
      (λ (end : (place ≡ length xs) × (new ≡ x)).
      subst (λ (y : ℕ × A). IsSo y.0 y.1) (λ i. (sym end.0 i, end.1 i)) last)
      (at_end xs new x place at)

  -- of a list of one
  pub each_one : (IsSo : ℕ → A → Type 0) (x : A) → IsSo 0 x → EachAt IsSo (x ∷ [])
  each_one IsSo x first = each_end IsSo [] x (λ place y at. absurd (some-ne-none y (sym at))) first

  pub sum_moves : SumMovesAtSet A
  sum_moves weight [] place old new at = absurd (some-ne-none old (sym at))
  sum_moves weight (x ∷ xs) zero old new at =
      let same : weight x ≡ weight old = ap weight (some-injective x old at) in
      omega (arith, sum_by-cons weight new xs, sum_by-cons weight x xs)
  sum_moves weight (x ∷ xs) (suc place) old new at =
      let rest : sum_by weight (set xs place new) + weight old ≡ sum_by weight xs + weight new =
      sum_moves weight xs place old new at in
      omega (arith, sum_by-cons weight x (set xs place new), sum_by-cons weight x xs)
