-- The thieves of all workers: a row for each worker, a column for each deck.
use Rattle.std.specs.Prelude.{◌≡◌, ◌≢◌, ◌⊎◌, ℕ, zero, suc, ◌+◌, List, [], ◌∷◌, ◌++◌, map, length}

-- all but the one with this number
abbrev pub others : {D : Type 0} → ℕ → List D → List D
others i [] = []
others zero (d ∷ ds) = ds
others (suc i) (d ∷ ds) = d ∷ others i ds

-- the rows, numbered from i, have one item of each deck but the row's own, in order
abbrev pub AreRows : {A D : Type 0} → (A → D) → ℕ → List (List A) → List D → Type 0
AreRows deck i [] ds = Unit {0}
AreRows deck i (row ∷ rows) ds = (map deck row ≡ others i ds) × AreRows deck (i + 1) rows ds

-- the last item of a row that isn't the own, if there is one
pub record Pops {A : Type 0} (own i : ℕ) (row rest popped : List A) : Type 0 where
  pub cut : row ≡ rest ++ popped
  pub at_own : i ≡ own → popped ≡ []
  pub at_other : i ≢ own → (length popped ≡ 1) ⊎ (row ≡ [])

-- the last items of all rows but the own, and what is left of the rows
abbrev pub Columns : {A : Type 0} → ℕ → ℕ → List (List A) → List (List A) → List A → Type 0
Columns own i [] [] column = column ≡ []
Columns own i [] (rest ∷ rests) column = ⊥
Columns own i (row ∷ rows) [] column = ⊥
Columns {A} own i (row ∷ rows) (rest ∷ rests) column =
    (popped : List A) × (later : List A) × (column ≡ popped ++ later)
    × Pops own i row rest popped × Columns own (i + 1) rows rests later
