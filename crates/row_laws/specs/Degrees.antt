-- Degrees of remainders, reductions and remainder rows, and variables that they don't have.
use Rattle.std.specs.Prelude.{◌≡◌, ◌≢◌, ℕ, ◌<◌, ◌≤◌, List, [], ◌∷◌, ◌++◌}
use Rattle.polynomials.specs.Primes.{IsPrime}
use Rattle.polynomials.specs.Polynomials.{Polynomial, IsPolynomial, ArePolynomials}
use Rattle.polynomials.specs.Views.{degree_in, IsFreeOf, AreFreeOf}
use Rattle.zero_sets.specs.ZeroSets.{IsTriangular}
use Rattle.division_rules.specs.Chains.{EachRow, IfRow}
use Rattle.division_rules.specs.Lists.{list_operations}
use Rattle.division_rules.specs.PolynomialRows.{IsPolynomialRow, ArePolynomialRows}
use Rattle.division_rules.specs.Rows.{Row, elimination, sparse_remainder, pseudo_remainder, reduction, first_entries}
use Rattle.division_rules.specs.RemainderRows.{LaterRows, remainder_rows}
use Rattle.division_rules.specs.Turns.{DegreesFall}
use Rattle.row_laws.specs.Words.{reduction_of, IsReducedBy, StartRemainderRows}

-- x occurs neither in the first entry nor in a cofactor
abbrev pub IsRowFreeOf : ℕ → Row Polynomial → Type 0
IsRowFreeOf x f = IsFreeOf x f.first × AreFreeOf x f.cofactors

-- an elimination by g, whose degree in v isn't greater than that of f, lowers the degree of f
abbrev pub EliminationsLowerDegree : Type 0
EliminationsLowerDegree =
    (p n v : ℕ) (f g : Row Polynomial)
    → IsPrime p
    → IsPolynomialRow p n f
    → IsPolynomialRow p n g
    → 0 < degree_in v f.first
    → degree_in v g.first ≤ degree_in v f.first
    → degree_in v (elimination (list_operations p n) v f g).first < degree_in v f.first

-- remainders by g in v have less degree in v than g
pub record HaveLessDegree (p n v : ℕ) (f g : Row Polynomial) : Type 0 where
  pub by_sparse_remainder :
      degree_in v (sparse_remainder (list_operations p n) v f g).first < degree_in v g.first
  pub by_pseudo_remainder :
      degree_in v (pseudo_remainder (list_operations p n) v f g).first < degree_in v g.first

-- where v occurs in g
abbrev pub RemaindersHaveLessDegree : Type 0
RemaindersHaveLessDegree =
    (p n v : ℕ) (f g : Row Polynomial)
    → IsPrime p
    → IsPolynomialRow p n f
    → IsPolynomialRow p n g
    → 0 < degree_in v g.first
    → HaveLessDegree p n v f g

-- divisions by g in v don't raise the degree of f in x
pub record KeepDegrees (p n v x : ℕ) (f g : Row Polynomial) : Type 0 where
  pub by_elimination :
      degree_in x (elimination (list_operations p n) v f g).first ≤ degree_in x f.first
  pub by_sparse_remainder :
      degree_in x (sparse_remainder (list_operations p n) v f g).first ≤ degree_in x f.first
  pub by_pseudo_remainder :
      degree_in x (pseudo_remainder (list_operations p n) v f g).first ≤ degree_in x f.first

-- where x is another variable, which doesn't occur in g
abbrev pub DivisionsKeepDegrees : Type 0
DivisionsKeepDegrees =
    (p n v x : ℕ) (f g : Row Polynomial)
    → IsPrime p
    → IsPolynomialRow p n f
    → IsPolynomialRow p n g
    → x ≢ v
    → IsFreeOf x g.first
    → KeepDegrees p n v x f g

-- nor do reductions by a triangular set in which x doesn't occur
abbrev pub ReductionsKeepDegrees : Type 0
ReductionsKeepDegrees =
    (p n x : ℕ) (chain : List Polynomial) (f : Polynomial)
    → IsPrime p
    → ArePolynomials p n chain
    → IsPolynomial p n f
    → IsTriangular chain
    → AreFreeOf x chain
    → degree_in x (reduction_of p n chain f) ≤ degree_in x f

-- nor does a variable come into the reduction of a row that occurs in no entry of the row and the
-- chain
abbrev pub ReductionsAreFree : Type 0
ReductionsAreFree =
    (p n x : ℕ) (chain : List (Row Polynomial)) (f : Row Polynomial)
    → IsPrime p
    → ArePolynomialRows p n (f ∷ chain)
    → IsTriangular (first_entries chain)
    → EachRow (IsRowFreeOf x) (f ∷ chain)
    → IsRowFreeOf x (reduction (list_operations p n) chain f)

-- what a triangular set reduces already is its own reduction
abbrev pub ReducedStaysSame : Type 0
ReducedStaysSame =
    (p n : ℕ) (chain : List (Row Polynomial)) (f : Row Polynomial)
    → IsPrime p
    → ArePolynomialRows p n (f ∷ chain)
    → IsTriangular (first_entries chain)
    → IsReducedBy f.first (first_entries chain)
    → reduction (list_operations p n) chain f ≡ f

-- polynomials by which f is reduced can be left out at the end of a triangular set
abbrev pub ReducedByMore : Type 0
ReducedByMore =
    (p n : ℕ) (chain more : List Polynomial) (f : Polynomial)
    → IsPrime p
    → ArePolynomials p n (chain ++ more)
    → IsPolynomial p n f
    → IsTriangular (chain ++ more)
    → IsReducedBy f more
    → reduction_of p n (chain ++ more) f ≡ reduction_of p n chain f

-- of the rows after c none is 0, each is reduced by the chain, and the degrees in v fall to that of
-- a row that is free of v, or until a zero row follows
pub record HaveFallingDegrees
    (p n v : ℕ) (chain : List Polynomial) (c : Row Polynomial) (rows : LaterRows Polynomial)
    : Type 0 where
  pub nonzero : EachRow (λ h. h.first ≢ []) rows.later
  pub reduced : EachRow (λ h. IsReducedBy h.first chain) rows.later
  pub falls : DegreesFall (list_operations p n) v c rows.later rows.last

-- that is how remainder rows are
abbrev pub RemainderRowsFall : Type 0
RemainderRowsFall =
    (p n w v : ℕ) (chain : List (Row Polynomial)) (t c : Row Polynomial)
    → IsPrime p
    → ArePolynomialRows p n (t ∷ c ∷ chain)
    → StartRemainderRows v (first_entries chain) t.first c.first
    → HaveFallingDegrees p n v (first_entries chain) c
    (remainder_rows (list_operations p n) w v chain t c)

-- a variable other than v that occurs in no entry of t, c and the chain occurs in no entry of the
-- rows
abbrev pub RemainderRowsAreFree : Type 0
RemainderRowsAreFree =
    (p n w v x : ℕ) (chain : List (Row Polynomial)) (t c : Row Polynomial)
    → IsPrime p
    → ArePolynomialRows p n (t ∷ c ∷ chain)
    → StartRemainderRows v (first_entries chain) t.first c.first
    → x ≢ v
    → EachRow (IsRowFreeOf x) (t ∷ c ∷ chain)
    → EachRow (IsRowFreeOf x) (remainder_rows (list_operations p n) w v chain t c).later
    × IfRow (IsRowFreeOf x) (remainder_rows (list_operations p n) w v chain t c).last
