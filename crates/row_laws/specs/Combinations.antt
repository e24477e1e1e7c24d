-- Rows stay the sums of their cofactors times the generators.
use Rattle.std.specs.Prelude.{◌≡◌, ℕ, List, ◌∷◌, length, map}
use Rattle.polynomials.specs.Primes.{IsPrime}
use Rattle.polynomials.specs.Polynomials.{Polynomial, IsPolynomial, ArePolynomials, sum_of, product_of}
use Rattle.division_rules.specs.Chains.{EachRow, IfRow}
use Rattle.division_rules.specs.Lists.{list_operations}
use Rattle.division_rules.specs.PolynomialRows.{IsPolynomialRow}
use Rattle.division_rules.specs.Rows.{Row, combined, elimination, sparse_remainder, pseudo_remainder, reduction, first_entries}
use Rattle.division_rules.specs.RemainderRows.{remainder_rows}
use Rattle.division_rules.specs.Units.{IsCombinationOf, unit_rows, entrywise_sum}
use Rattle.row_laws.specs.Words.{StartRemainderRows}

-- a row of canonical polynomials that is the combination of its cofactors and the generators
pub record IsRowOver (p n : ℕ) (gs : List Polynomial) (f : Row Polynomial) : Type 0 where
  pub canonical : IsPolynomialRow p n f
  pub combination : IsCombinationOf (list_operations p n) gs f

-- each is one
abbrev pub AreRowsOver : ℕ → ℕ → List Polynomial → List (Row Polynomial) → Type 0
AreRowsOver p n gs rows = EachRow (IsRowOver p n gs) rows

-- the steps of division make such rows of such rows
pub record KeepCombinations (p n : ℕ) (gs : List Polynomial) : Type 0 where
  pub units : AreRowsOver p n gs (unit_rows (list_operations p n) 0 gs)
  pub elimination :
      (v : ℕ) (f g : Row Polynomial)
      → IsRowOver p n gs f
      → IsRowOver p n gs g
      → IsRowOver p n gs (elimination (list_operations p n) v f g)
  pub sparse_remainder :
      (v : ℕ) (f g : Row Polynomial)
      → IsRowOver p n gs f
      → IsRowOver p n gs g
      → IsRowOver p n gs (sparse_remainder (list_operations p n) v f g)
  pub pseudo_remainder :
      (v : ℕ) (f g : Row Polynomial)
      → IsRowOver p n gs f
      → IsRowOver p n gs g
      → IsRowOver p n gs (pseudo_remainder (list_operations p n) v f g)
  pub reduction :
      (chain : List (Row Polynomial)) (f : Row Polynomial)
      → AreRowsOver p n gs (f ∷ chain)
      → IsRowOver p n gs (reduction (list_operations p n) chain f)
  pub later_rows :
      (w v : ℕ) (chain : List (Row Polynomial)) (t c : Row Polynomial)
      → AreRowsOver p n gs (t ∷ c ∷ chain)
      → StartRemainderRows v (first_entries chain) t.first c.first
      → AreRowsOver p n gs (remainder_rows (list_operations p n) w v chain t c).later
  -- the zero row too, where they end with one
  pub zero_row :
      (w v : ℕ) (chain : List (Row Polynomial)) (t c : Row Polynomial)
      → AreRowsOver p n gs (t ∷ c ∷ chain)
      → StartRemainderRows v (first_entries chain) t.first c.first
      → IfRow (IsRowOver p n gs) (remainder_rows (list_operations p n) w v chain t c).last

-- for all canonical generators over a prime field
abbrev pub CombinationsAreKept : Type 0
CombinationsAreKept =
    (p n : ℕ) (gs : List Polynomial) → IsPrime p → ArePolynomials p n gs → KeepCombinations p n gs

-- a times a row, and a combination of the same generators added to it
abbrev pub composed_row :
    ℕ → ℕ → List Polynomial → Polynomial → Row Polynomial → List Polynomial → Row Polynomial
composed_row p n gs a f es = record {
  first = sum_of p (product_of p a f.first) (combined (list_operations p n) es gs);
  cofactors = entrywise_sum (list_operations p n) (map (product_of p a) f.cofactors) es;
}

-- that is such a row again
abbrev pub ComposedRowsAreCombinations : Type 0
ComposedRowsAreCombinations =
    (p n : ℕ) (gs : List Polynomial) (a : Polynomial) (f : Row Polynomial) (es : List Polynomial)
    → IsPrime p
    → ArePolynomials p n gs
    → IsPolynomial p n a
    → IsRowOver p n gs f
    → ArePolynomials p n es
    → length es ≡ length gs
    → IsRowOver p n gs (composed_row p n gs a f es)
