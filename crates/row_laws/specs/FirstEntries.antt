-- First entries with cofactors and without.
use Rattle.std.specs.Prelude.{◌≡◌, ℕ, List}
use Rattle.polynomials.specs.Polynomials.{Polynomial}
use Rattle.division_rules.specs.Lists.{list_operations}
use Rattle.division_rules.specs.Rows.{Row, plain, sparse_remainder, pseudo_remainder, reduction, first_entries}
use Rattle.row_laws.specs.Words.{reduction_of}

-- remainders and reductions of rows have the first entries that those of their first entries have
pub record LookAtFirstEntries (p n : ℕ) : Type 0 where
  pub sparse_remainder :
      (v : ℕ) (f g : Row Polynomial)
      → (sparse_remainder (list_operations p n) v f g).first
      ≡ (sparse_remainder (list_operations p n) v (plain f.first) (plain g.first)).first
  pub pseudo_remainder :
      (v : ℕ) (f g : Row Polynomial)
      → (pseudo_remainder (list_operations p n) v f g).first
      ≡ (pseudo_remainder (list_operations p n) v (plain f.first) (plain g.first)).first
  pub reduction :
      (chain : List (Row Polynomial)) (f : Row Polynomial)
      → (reduction (list_operations p n) chain f).first
      ≡ reduction_of p n (first_entries chain) f.first

-- for every modulus and number of variables
abbrev pub FirstEntriesStandAlone : Type 0
FirstEntriesStandAlone = (p n : ℕ) → LookAtFirstEntries p n
