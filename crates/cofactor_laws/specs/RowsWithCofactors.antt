-- Remainder rows with cofactors of the polynomials that they are made of.
use Rattle.std.specs.Prelude.{◌≡◌, ℕ, suc, List, [], ◌∷◌, length, Some}
use Rattle.polynomials.specs.Primes.{IsPrime}
use Rattle.polynomials.specs.Polynomials.{Polynomial, ArePolynomials, one_of}
use Rattle.division_rules.specs.Lists.{list_operations}
use Rattle.division_rules.specs.Rows.{Row}
use Rattle.division_rules.specs.RemainderRows.{LaterRows, remainder_rows, leads}
use Rattle.division_rules.specs.Units.{unit_row, unit_rows}
use Rattle.row_laws.specs.Words.{StartRemainderRows}

-- c and t as rows among the generators c, t and the chain, and the chain as rows
abbrev pub row_of_c : ℕ → Polynomial → List Polynomial → Row Polynomial
row_of_c n c chain = unit_row [] (one_of n) 0 (suc (length chain)) c

abbrev pub row_of_t : ℕ → Polynomial → List Polynomial → Row Polynomial
row_of_t n t chain = unit_row [] (one_of n) 1 (length chain) t

abbrev pub rows_of_chain : ℕ → ℕ → List Polynomial → List (Row Polynomial)
rows_of_chain p n chain = unit_rows (list_operations p n) 2 chain

-- the remainder rows of t and c in v below the chain, with cofactors of c, t and the chain
abbrev pub rows_with_cofactors :
    ℕ → ℕ → ℕ → ℕ → Polynomial → Polynomial → List Polynomial → LaterRows Polynomial
rows_with_cofactors p n w v t c chain =
    remainder_rows (list_operations p n) w v (rows_of_chain p n chain) (row_of_t n t chain)
    (row_of_c n c chain)

-- the leads in v of c and of the rows after it
abbrev pub leads_from_c :
    ℕ → ℕ → ℕ → ℕ → Polynomial → Polynomial → List Polynomial → List Polynomial
leads_from_c p n w v t c chain =
    leads (list_operations p n) v
    (row_of_c n c chain ∷ (rows_with_cofactors p n w v t c chain).later)

-- t and c are canonical and start remainder rows in v below the chain, which end with the zero row
-- z
pub record EndWithZeroRow
    (p n w v : ℕ) (t c : Polynomial) (chain : List Polynomial) (z : Row Polynomial) : Type 0 where
  pub prime : IsPrime p
  pub canonical : ArePolynomials p n (c ∷ t ∷ chain)
  pub start : StartRemainderRows v chain t c
  pub last : (rows_with_cofactors p n w v t c chain).last ≡ Some z
