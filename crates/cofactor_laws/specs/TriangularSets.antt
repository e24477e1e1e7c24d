-- Remainder rows with cofactors at a polynomial of a triangular set.
use Rattle.std.specs.Prelude.{◌≡◌, ◌≢◌, ◌⊎◌, ℕ, suc, ◌≤◌, List, [], ◌∷◌, Any, Some, None}
use Rattle.polynomials.specs.Primes.{IsPrime}
use Rattle.polynomials.specs.Polynomials.{Polynomial, ArePolynomials}
use Rattle.polynomials.specs.Views.{degree_in, IsFreeOf}
use Rattle.zero_sets.specs.Domains.{Tables, IsPointOver, value_at}
use Rattle.zero_sets.specs.ZeroSets.{InQuasiComponent, IsTriangular, member_in, members_below}
use Rattle.division_rules.specs.Lists.{list_operations}
use Rattle.division_rules.specs.Rows.{Row}
use Rattle.division_rules.specs.Turns.{last_row}
use Rattle.division_rules.specs.Cofactors.{first_cofactor}
use Rattle.row_laws.specs.Words.{reduction_of, IsReducedBy}
use Rattle.row_laws.specs.Members.{LacksMainFrom}
use Rattle.cofactor_laws.specs.RowsWithCofactors.{row_of_c, rows_with_cofactors, leads_from_c}

-- in a triangular set of canonical polynomials t is the one for v, and the set reduces c, in which
-- v occurs and no greater main variable does: so t and c start remainder rows in v
pub record StartIn (p n v : ℕ) (chain : List Polynomial) (t c : Polynomial) : Type 0 where
  pub prime : IsPrime p
  pub canonical : ArePolynomials p n (c ∷ chain)
  pub triangular : IsTriangular chain
  pub member : member_in v chain ≡ Some t
  pub reduced : IsReducedBy c chain
  pub occurs : 1 ≤ degree_in v c
  pub lacks : LacksMainFrom (suc v) c chain

-- and their rows with cofactors, below v, end with the zero row z
pub record EndWithZeroRowIn
    (p n w v : ℕ) (chain : List Polynomial) (t c : Polynomial) (z : Row Polynomial) : Type 0 where
  pub starts : StartIn p n v chain t c
  pub last : (rows_with_cofactors p n w v t c (members_below v chain)).last ≡ Some z

-- the last of the rows after c, or c where there is none
abbrev pub last_with_cofactors :
    ℕ → ℕ → ℕ → ℕ → List Polynomial → Polynomial → Polynomial → Row Polynomial
last_with_cofactors p n w v chain t c =
    last_row (row_of_c n c (members_below v chain))
    (rows_with_cofactors p n w v t c (members_below v chain)).later

-- f isn't 0, has neither v nor a greater main variable, and is reduced by the set
pub record IsReducedBelow (v : ℕ) (chain : List Polynomial) (f : Polynomial) : Type 0 where
  pub nonzero : f ≢ []
  pub free : IsFreeOf v f
  pub lacks : LacksMainFrom v f chain
  pub reduced : IsReducedBy f chain

-- where the rows don't end with a zero row, that is how the last of them is
abbrev pub LastRowsAreReduced : Type 0
LastRowsAreReduced =
    (p n w v : ℕ) (chain : List Polynomial) (t c : Polynomial)
    → StartIn p n v chain t c
    → (rows_with_cofactors p n w v t c (members_below v chain)).last ≡ None
    → IsReducedBelow v chain (last_with_cofactors p n w v chain t c).first

-- what the reduction of the zero row's cofactor of c shows of a point: it is zero there or c is;
-- and where it is 0 the lead of c or of a later row is zero there
pub record ShowsZeros
    (p n w v : ℕ) (r : Tables) (xs : List ℕ) (chain : List Polynomial) (t c : Polynomial)
    (z : Row Polynomial) : Type 0 where
  pub splits :
      (value_at r xs (reduction_of p n chain (first_cofactor (list_operations p n) z)) ≡ r.nil)
      ⊎ (value_at r xs c ≡ r.nil)
  pub lead :
      reduction_of p n chain (first_cofactor (list_operations p n) z) ≡ []
      → Any (λ l. value_at r xs l ≡ r.nil) (leads_from_c p n w v t c (members_below v chain))

-- so it does at each point of the quasi-component
abbrev pub ZeroRowsShowZeros : Type 0
ZeroRowsShowZeros =
    (p n w v : ℕ) (r : Tables) (xs : List ℕ) (chain : List Polynomial) (t c : Polynomial)
    (z : Row Polynomial)
    → EndWithZeroRowIn p n w v chain t c z
    → IsPointOver p r xs
    → InQuasiComponent r xs chain
    → ShowsZeros p n w v r xs chain t c z
