-- What holds at each place of a list.
use Rattle.std.specs.Prelude.{◌≡◌, ℕ, List}
use lib.ListN.{get_elem?}
use mathlib.Core.Option.{some}

-- the list has this item at this place
abbrev pub HasAt : {A : Type 0} → List A → ℕ → A → Type 0
HasAt xs place x = get_elem? xs place ≡ some x

-- each item is so at its place
abbrev pub EachAt : {A : Type 0} → (ℕ → A → Type 0) → List A → Type 0
EachAt {A} IsSo xs = (place : ℕ) (x : A) → HasAt xs place x → IsSo place x
