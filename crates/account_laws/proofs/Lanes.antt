-- What was taken of all lanes.
use Rattle.std.proofs.Common.{◌≡◌, ◌≢◌, ◌≤◌, ◌<◌, ℕ, zero, suc, ◌+◌, List, [], ◌∷◌, map, length, refl, sym, ap, ◌∙◌, arith}
use Rattle.std.proofs.lemmas.List.Sums.{sum_by-cons, sum_by-append}
use Rattle.std.specs.List.{sum_by, flat_map, AllByRecursion}
use native.Mathlib.Decide.{ℕ_discrete}
use Rattle.tally_laws.specs.Weights.{WeighTheSame}
use Rattle.event_lanes.specs.declared.rule.Post.{Post}
use Rattle.event_lanes.specs.declared.rule.Back.{Back}
use Rattle.event_lanes.specs.Posts.{of_lane, AreNumbered, AllTaken}
use Rattle.event_lanes.proofs.Lanes.{of_lane-own, of_lane-other, all_made}

module _ {A : Type 0} (h : A → ℕ) where
  -- what was taken of n lanes from i on weighs
  abbrev lanes : ℕ → ℕ → List (Post A) → ℕ
  lanes i zero taken = 0
  lanes i (suc n) taken = sum_by h (of_lane i taken) + lanes (i + 1) n taken

  nothing : (i n : ℕ) → lanes i n [] ≡ 0
  nothing i zero = refl
  nothing i (suc n) = let later = nothing (i + 1) n in omega arith

  -- an item counts nothing in later lanes
  before : (i n : ℕ) (post : Post A) (posts : List (Post A)) → post.lane < i
      → lanes i n (post ∷ posts) ≡ lanes i n posts
  before i zero post posts early = refl
  before i (suc n) post posts early =
      let here = ap (sum_by h) (of_lane-other i post posts (λ e. omega arith)) in
      let later = before (i + 1) n post posts (omega arith) in omega arith

  -- and once in its own
  among : (i n : ℕ) (post : Post A) (posts : List (Post A)) → i ≤ post.lane → post.lane < i + n
      → lanes i n (post ∷ posts) ≡ h post.item + lanes i n posts
  among i zero post posts low high = absurd (omega arith)
  among i (suc n) post posts low high =
      elim (ℕ_discrete post.lane i) as (λ _. lanes i (suc n) (post ∷ posts) ≡ h post.item + lanes i (suc n) posts) [
        | yes same ↦
            (let here = ap (sum_by h) (of_lane-own i post posts same) ∙ sum_by-cons h post.item (of_lane i posts) in
            let later = before (i + 1) n post posts (omega arith) in omega arith)
        | no apart ↦
            (let here = ap (sum_by h) (of_lane-other i post posts apart) in
            let later = among (i + 1) n post posts (omega arith) (omega arith) in omega arith)
      ]

  -- where each item is of an earlier lane, the lanes' items are all
  all_lanes : (n : ℕ) (taken : List (Post A)) → AllByRecursion (λ (post : Post A). post.lane < n) taken
      → sum_by h (map (λ (post : Post A). post.item) taken) ≡ lanes 0 n taken
  all_lanes n [] early = sym (nothing 0 n)
  all_lanes n (post ∷ posts) early =
      let cut = sum_by-cons h post.item (map (λ (post : Post A). post.item) posts) in
      let rest = all_lanes n posts early.1 in
      let first : post.lane < n = early.0 in
      let one = among 0 n post posts (omega arith) (omega arith) in omega arith

  -- what came back is what was taken of its lanes
  all_backs : (i : ℕ) (taken : List (Post A)) (backs : List (Back A)) → AreNumbered i backs
      → AllByRecursion (λ (back : Back A). of_lane back.lane taken ≡ back.put) backs
      → lanes i (length backs) taken ≡ sum_by h (flat_map (λ (back : Back A). back.put) backs)
  all_backs i taken [] numbered whole = refl
  all_backs i taken (back ∷ backs) numbered whole =
      let here : sum_by h (of_lane i taken) ≡ sum_by h back.put =
      ap (λ (l : ℕ). sum_by h (of_lane l taken)) (sym numbered.0) ∙ ap (sum_by h) whole.0 in
      let rest = all_backs (i + 1) taken backs numbered.1 whole.1 in
      let cut = sum_by-append h back.put (flat_map (λ (b : Back A). b.put) backs) in omega arith

pub taken_weighs : {A : Type 0} (taken : List (Post A)) (backs : List (Back A))
    → AreNumbered 0 backs → AllTaken (length backs) taken backs
    → WeighTheSame (map (λ (post : Post A). post.item) taken) (flat_map (λ (back : Back A). back.put) backs)
taken_weighs taken backs numbered all h =
    all_lanes h (length backs) taken (all_made (length backs) taken all.made_only) ∙ all_backs h 0 taken backs numbered all.whole
