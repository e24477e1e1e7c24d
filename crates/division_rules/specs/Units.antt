-- Rows over named generators: what their cofactors say, and the generators themselves as rows.
use Rattle.std.specs.Prelude.{◌≡◌, ℕ, suc, List, [], ◌∷◌, ◌++◌, length, replicate}
use Rattle.division_rules.specs.Operations.{Operations}
use Rattle.division_rules.specs.Rows.{Row, combined}

-- the cofactors of a generator: 1 at itself, and 0 at those before it and behind it
abbrev pub unit_cofactors : {A : Type 0} → A → A → ℕ → ℕ → List A
unit_cofactors nil one before behind = replicate before nil ++ one ∷ replicate behind nil

-- a generator as a row
abbrev pub unit_row : {A : Type 0} → A → A → ℕ → ℕ → A → Row A
unit_row nil one before behind f =
    record { first = f; cofactors = unit_cofactors nil one before behind }

module _ {A : Type 0} (o : Operations A) where
  -- f has a cofactor for each generator, and its first entry is the sum of their products
  pub record IsCombinationOf (generators : List A) (f : Row A) : Type 0 where
    pub one_each : length f.cofactors ≡ length generators
    pub identity : f.first ≡ combined o f.cofactors generators

  -- generators as rows, where others stand before them
  abbrev pub unit_rows : ℕ → List A → List (Row A)
  unit_rows before [] = []
  unit_rows before (f ∷ fs) = unit_row o.nil o.one before (length fs) f ∷ unit_rows (suc before) fs

  -- the sums of the entries of two lists at the same places
  abbrev pub entrywise_sum : List A → List A → List A
  entrywise_sum [] ds = []
  entrywise_sum (c ∷ cs) [] = []
  entrywise_sum (c ∷ cs) (d ∷ ds) = o.plus c d ∷ entrywise_sum cs ds
