-- What was taken of each lane, and what each lane put.
use Rattle.std.specs.Prelude.{◌≡◌, ◌≤◌, ◌==◌, ℕ, ◌+◌, List, [], ◌∷◌, map, length, take}
use Rattle.std.specs.List.{AllByRecursion, filter}
use Rattle.event_lanes.specs.declared.rule.Post.{Post}
use Rattle.event_lanes.specs.declared.rule.Back.{Back}

-- the items of one lane, in order
abbrev pub of_lane : {A : Type 0} → ℕ → List (Post A) → List A
of_lane {A} lane posts =
    map (λ (post : Post A). post.item) (filter (λ (post : Post A). post.lane == lane) posts)

-- the lanes have the numbers from i on, in order
abbrev pub AreNumbered : {A : Type 0} → ℕ → List (Back A) → Type 0
AreNumbered i [] = Unit {0}
AreNumbered i (back ∷ backs) = (back.lane ≡ i) × AreNumbered (i + 1) backs

-- the first list is the beginning of the second
abbrev pub IsPrefix : {A : Type 0} → List A → List A → Type 0
IsPrefix xs ys = take (length xs) ys ≡ xs

-- of each lane that was given back, what was taken is the beginning of what it put
abbrev pub ArePrefixes : {A : Type 0} → List (Post A) → List (Back A) → Type 0
ArePrefixes {A} taken backs =
    AllByRecursion (λ (back : Back A). IsPrefix (of_lane back.lane taken) back.put) backs

-- of each lane that was given back, all that it put was taken, and nothing of one that wasn't made
pub record AllTaken {A : Type 0} (made : ℕ) (taken : List (Post A)) (backs : List (Back A))
    : Type 0 where
  pub whole : AllByRecursion (λ (back : Back A). of_lane back.lane taken ≡ back.put) backs
  pub made_only : (lane : ℕ) → made ≤ lane → of_lane lane taken ≡ []
