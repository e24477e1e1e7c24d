-- Remainder rows at points where the first two and the chain are zero.
use Rattle.std.specs.Prelude.{◌≡◌, ℕ, List, ◌∷◌, take, slice_get, Some}
use Rattle.polynomials.specs.Primes.{IsPrime}
use Rattle.polynomials.specs.Polynomials.{Polynomial}
use Rattle.zero_sets.specs.Domains.{Tables, IsPointOver, value_at}
use Rattle.zero_sets.specs.ZeroSets.{InZeroSet, AreNonZero}
use Rattle.division_rules.specs.Lists.{list_operations}
use Rattle.division_rules.specs.PolynomialRows.{ArePolynomialRows}
use Rattle.division_rules.specs.Rows.{Row, first_entries}
use Rattle.division_rules.specs.RemainderRows.{LaterRows, remainder_rows, leads}
use Rattle.division_rules.specs.Turns.{last_row}
use Rattle.row_laws.specs.Words.{StartRemainderRows}

-- of the rows after c, the one at place i (from 0) is zero at the point where none of the first i
-- leads of c and these rows is: no lead is asked of that row, nor of the row before it
abbrev pub AreZeroByLeads :
    ℕ → ℕ → ℕ → Tables → List ℕ → Row Polynomial → List (Row Polynomial) → Type 0
AreZeroByLeads p n v r xs c later =
    (i : ℕ) (h : Row Polynomial)
    → slice_get later i ≡ Some h
    → AreNonZero r xs (take i (leads (list_operations p n) v (c ∷ later)))
    → value_at r xs h.first ≡ r.nil

-- so are the remainder rows, with cofactors or without, where t, c and the chain are zero
abbrev pub RemainderRowsVanish : Type 0
RemainderRowsVanish =
    (p n w v : ℕ) (r : Tables) (xs : List ℕ) (chain : List (Row Polynomial)) (t c : Row Polynomial)
    → IsPrime p
    → IsPointOver p r xs
    → ArePolynomialRows p n (t ∷ c ∷ chain)
    → StartRemainderRows v (first_entries chain) t.first c.first
    → InZeroSet r xs (first_entries (t ∷ c ∷ chain))
    → AreZeroByLeads p n v r xs c (remainder_rows (list_operations p n) w v chain t c).later

-- the rows after c end with a zero row, and the row before it is zero at the point
pub record EndInCommonZero
    (r : Tables) (xs : List ℕ) (c : Row Polynomial) (rows : LaterRows Polynomial) : Type 0 where
  pub zero_row : Row Polynomial
  pub last : rows.last ≡ Some zero_row
  pub zero : value_at r xs (last_row c rows.later).first ≡ r.nil

-- so do the remainder rows where t, c and the chain are zero and no lead is
abbrev pub RemainderRowsEndInCommonZero : Type 0
RemainderRowsEndInCommonZero =
    (p n w v : ℕ) (r : Tables) (xs : List ℕ) (chain : List (Row Polynomial)) (t c : Row Polynomial)
    → IsPrime p
    → IsPointOver p r xs
    → ArePolynomialRows p n (t ∷ c ∷ chain)
    → StartRemainderRows v (first_entries chain) t.first c.first
    → InZeroSet r xs (first_entries (t ∷ c ∷ chain))
    → AreNonZero r xs
    (leads (list_operations p n) v
    (c ∷ (remainder_rows (list_operations p n) w v chain t c).later))
    → EndInCommonZero r xs c (remainder_rows (list_operations p n) w v chain t c)
