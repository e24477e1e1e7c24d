-- The items of one lane.
use Rattle.std.proofs.Common.{◌≡◌, ◌≢◌, ℕ, suc, ◌<◌, ◌≤◌, cond, eqb, List, [], ◌∷◌, ◌++◌, map, length, take, sym, refl, ap, ◌∙◌, arith, eq-eqb, ne_eqb}
use Rattle.std.proofs.Math.Seq.{take-append_seam}
use Rattle.std.proofs.lemmas.List.{map-append}
use Rattle.std.proofs.lemmas.List.Elements.{filter-append}
use Rattle.std.specs.List.{AllByRecursion, filter}
use native.Mathlib.Decide.{dec_lt, ℕ_discrete}
use Rattle.event_lanes.specs.Posts.{of_lane, IsPrefix}
use Rattle.event_lanes.specs.declared.rule.Post.{Post}

module _ {A : Type 0} where
  pub of_lane-append : (lane : ℕ) (xs ys : List (Post A)) → of_lane lane (xs ++ ys) ≡ of_lane lane xs ++ of_lane lane ys
  of_lane-append lane xs ys =
      ap (map (λ (post : Post A). post.item)) (filter-append (λ (post : Post A). eqb post.lane lane) xs ys)
      ∙ map-append (λ (post : Post A). post.item) (filter _ xs) (filter _ ys)

  -- an item in front belongs to its own lane alone
  pub of_lane-own : (lane : ℕ) (x : Post A) (xs : List (Post A)) → x.lane ≡ lane
      → of_lane lane (x ∷ xs) ≡ x.item ∷ of_lane lane xs
  of_lane-own lane x xs own =
      ap
      (λ b. map (λ (post : Post A). post.item) (cond b (x ∷ filter (λ (post : Post A). eqb post.lane lane) xs) (filter (λ (post : Post A). eqb post.lane lane) xs)))
      (eq-eqb x.lane lane own)

  pub of_lane-other : (lane : ℕ) (x : Post A) (xs : List (Post A)) → x.lane ≢ lane
      → of_lane lane (x ∷ xs) ≡ of_lane lane xs
  of_lane-other lane x xs other =
      ap
      (λ b. map (λ (post : Post A). post.item) (cond b (x ∷ filter (λ (post : Post A). eqb post.lane lane) xs) (filter (λ (post : Post A). eqb post.lane lane) xs)))
      (ne_eqb x.lane lane other)

  pub prefix_of : (xs ys zs : List A) → zs ≡ xs ++ ys → IsPrefix xs zs
  prefix_of xs ys zs whole = ap (take (length xs)) whole ∙ take-append_seam xs ys

  -- where no lane from some number on has an item, the first item's lane is less
  first_below : (made : ℕ) (x : Post A) (xs : List (Post A)) → of_lane x.lane (x ∷ xs) ≡ []
      → x.lane < made
  first_below made x xs none =
      let some : length (of_lane x.lane (x ∷ xs)) ≡ suc (length (of_lane x.lane xs)) =
      ap length (of_lane-own x.lane x xs refl) in
      let empty : length (of_lane x.lane (x ∷ xs)) ≡ 0 = ap length none in absurd (omega arith)

  no_later : (lane : ℕ) (x : Post A) (xs : List (Post A)) → of_lane lane (x ∷ xs) ≡ []
      → Dec (x.lane ≡ lane) → of_lane lane xs ≡ []
  no_later lane x xs none (yes own) =
      let some : length (of_lane lane (x ∷ xs)) ≡ suc (length (of_lane lane xs)) =
      ap length (of_lane-own lane x xs own) in
      let empty : length (of_lane lane (x ∷ xs)) ≡ 0 = ap length none in absurd (omega arith)
  no_later lane x xs none (no other) = sym (of_lane-other lane x xs other) ∙ none

  first_made : (made : ℕ) (x : Post A) (xs : List (Post A))
      → ((lane : ℕ) → made ≤ lane → of_lane lane (x ∷ xs) ≡ []) → Dec (x.lane < made) → x.lane < made
  first_made made x xs none (yes below) = below
  first_made made x xs none (no above) = first_below made x xs (none x.lane (omega arith))

  -- where lanes that weren't made have no item, each item's lane was made
  pub all_made : (made : ℕ) (xs : List (Post A)) → ((lane : ℕ) → made ≤ lane → of_lane lane xs ≡ [])
      → AllByRecursion (λ (x : Post A). x.lane < made) xs
  all_made made [] none = tt
  all_made made (x ∷ xs) none = (
    first_made made x xs none (dec_lt x.lane made),
    all_made made xs (λ lane unmade. no_later lane x xs (none lane unmade) (ℕ_discrete x.lane lane)),
  )

  -- where there is one lane, all items are of it
  pub all_of_one : (lane : ℕ) (xs : List (Post A)) → lane < 1 → AllByRecursion (λ (x : Post A). x.lane < 1) xs
      → length (of_lane lane xs) ≡ length xs
  all_of_one lane [] first each = refl
  all_of_one lane (x ∷ xs) first each =
      let own : x.lane ≡ lane = (let below : x.lane < 1 = each.0 in omega arith) in
      let rest : length (of_lane lane xs) ≡ length xs = all_of_one lane xs first each.1 in
      let here : length (of_lane lane (x ∷ xs)) ≡ suc (length (of_lane lane xs)) =
      ap length (of_lane-own lane x xs own) in omega arith
