-- Items of which no two have one name, from the first on and from behind.
use Rattle.std.proofs.Common.{◌≡◌, ◌∙◌, ℕ, Bool, true, false, ◌||◌, List, [], ◌∷◌, ◌++◌, map, refl, sym, ap, ap₂, true≢false}
use Rattle.std.specs.List.{AllByRecursion, IsDistinct}
use Rattle.std.specs.Str.{bytes_eq}
use Rattle.tri_io.specs.Commands.{Item}
use Rattle.tri_io.proofs.States.{has_name}
use Rattle.tri_io.proofs.Readings.{AreNew}

-- the names of items
abbrev pub item_names : List Item → List (List ℕ)
item_names = map (λ item. item.name)

-- one more item at the end
one_more : (items : List Item) (item : Item) (name : List ℕ) → has_name (items ++ item ∷ []) name ≡ (has_name items name || bytes_eq item.name name)
one_more [] item name = go (bytes_eq item.name name)
  where
    go : (b : Bool) → (b || false) ≡ b
    go true = refl
    go false = refl
one_more (i ∷ items) item name = ap (λ b. bytes_eq i.name name || b) (one_more items item name) ∙ go (bytes_eq i.name name) (has_name items name) (bytes_eq item.name name)
  where
    go : (a b c : Bool) → (a || (b || c)) ≡ ((a || b) || c)
    go true b c = refl
    go false b c = refl

-- neither
neither : (a b : Bool) → (a || b) ≡ false → (a ≡ false) × (b ≡ false)
neither true b e = absurd (true≢false e)
neither false b e = (refl, e)

-- a name that none of so many items has, none of fewer has
apart : (items before : List Item) (x : Item) → ((name : List ℕ) → has_name before name ≡ false → bytes_eq x.name name ≡ false) → AreNew before items
    → AllByRecursion (λ name. bytes_eq x.name name ≡ false) (item_names items)
apart [] before x h new = tt
apart (item ∷ items) before x h new = (
  h item.name new.0,
  apart items (before ++ item ∷ []) x (λ name miss. h name (neither (has_name before name) (bytes_eq item.name name) (sym (one_more before item name) ∙ miss)).0) new.1,
)

pub distinct : (items before : List Item) → AreNew before items → IsDistinct bytes_eq (item_names items)
unfolding IsDistinct
distinct [] before new = tt
distinct (item ∷ items) before new = (
  apart items (before ++ item ∷ []) item (λ name miss. (neither (has_name before name) (bytes_eq item.name name) (sym (one_more before item name) ∙ miss)).1) new.1,
  distinct items (before ++ item ∷ []) new.1,
)

-- no item's name is one of those before
abbrev AreAway : List Item → List (List ℕ) → Type 0
AreAway before names = AllByRecursion (λ name. has_name before name ≡ false) names

still_away : (names : List (List ℕ)) (before : List Item) (item : Item) → AreAway before names → AllByRecursion (λ name. bytes_eq item.name name ≡ false) names → AreAway (before ++ item ∷ []) names
still_away [] before item away miss = tt
still_away (name ∷ names) before item away miss = (one_more before item name ∙ ap₂ ◌||◌ away.0 miss.0, still_away names before item away.1 miss.1)

new_behind : (items before : List Item) → AreAway before (item_names items) → IsDistinct bytes_eq (item_names items) → AreNew before items
unfolding IsDistinct
new_behind [] before away once = tt
new_behind (item ∷ items) before away once = (away.0, new_behind items (before ++ item ∷ []) (still_away (item_names items) before item away.1 once.0) once.1)

pub new : (items : List Item) → IsDistinct bytes_eq (item_names items) → AreNew [] items
new items once = new_behind items [] (none_before (item_names items)) once
  where
    none_before : (names : List (List ℕ)) → AreAway [] names
    none_before [] = tt
    none_before (name ∷ names) = (refl, none_before names)
