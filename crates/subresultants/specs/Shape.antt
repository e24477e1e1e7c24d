-- What holds of remainder rows: of each row, of degrees and leads, and at points.
use Rattle.std.specs.Prelude.{◌≡◌, ◌≢◌, ℕ, suc, ◌-◌, List, [], ◌∷◌, length, take, drop, slice_get, All, Option, Some, None}
use Rattle.polynomials.specs.Polynomials.{Polynomial}
use Rattle.zero_sets.specs.Domains.{Tables, IsPointOver, value_at}
use Rattle.zero_sets.specs.ZeroSets.{InZeroSet, AreNonZero}
use Rattle.division_rules.specs.Rows.{Row}
use Rattle.division_rules.specs.Chains.{EachRow}
use Rattle.division_rules.specs.Turns.{DegreesFall}
use Rattle.pseudo_division.specs.FieldOperations.{operations}
use Rattle.row_laws.specs.Words.{IsReducedBy}
use Rattle.subresultants.specs.AllRows.{RemainderRows, AllRemainders, Coprime, Common, TooWide}

-- P holds of each row, the zero row too
abbrev pub EachRemainderRow : (Row Polynomial → Type 0) → AllRemainders → Type 0
EachRemainderRow P (Coprime r) = EachRow P r.rows
EachRemainderRow P (Common r z) = EachRow P r.rows × P z
EachRemainderRow P TooWide = Unit {0}

-- P holds of the rows with their leads, where there are any
abbrev pub IfRows : (RemainderRows → Type 0) → AllRemainders → Type 0
IfRows P (Coprime r) = P r
IfRows P (Common r z) = P r
IfRows P TooWide = Unit {0}

-- the degrees in v fall along the rows, of which there is one at least
abbrev pub DegreesFallAlong : ℕ → ℕ → List (Row Polynomial) → Option (Row Polynomial) → Type 0
DegreesFallAlong p v [] last = ⊥
DegreesFallAlong p v (f ∷ rows) last = DegreesFall (operations p) v f rows last

-- degrees fall: coprime rows end with the degree 0, and common ones before it, with a row that is 0
abbrev pub HasFallingDegrees : ℕ → ℕ → AllRemainders → Type 0
HasFallingDegrees p v (Coprime r) = DegreesFallAlong p v r.rows None
HasFallingDegrees p v (Common r z) = DegreesFallAlong p v r.rows (Some z)
HasFallingDegrees p v TooWide = Unit {0}

-- each row after the first is reduced by the chain
abbrev pub IsReducedFromRowOne : List Polynomial → RemainderRows → Type 0
IsReducedFromRowOne chain r = EachRow (λ f. IsReducedBy f.first chain) (drop 1 r.rows)

-- there is one row more than leads, and no lead is 0
pub record HasNonzeroLeads (r : RemainderRows) : Type 0 where
  pub one_less : length r.rows ≡ suc (length r.leads)
  pub nonzero : All (λ l. l ≢ []) r.leads

-- P holds of coprime rows
abbrev pub IfCoprime : (RemainderRows → Type 0) → AllRemainders → Type 0
IfCoprime P (Coprime r) = P r
IfCoprime P (Common r z) = Unit {0}
IfCoprime P TooWide = Unit {0}

-- the last lead is the last row's first entry
abbrev pub EndsWithItsLead : RemainderRows → Type 0
EndsWithItsLead r =
    (f : Row Polynomial)
    → slice_get r.rows (length r.rows - 1) ≡ Some f
    → slice_get r.leads (length r.leads - 1) ≡ Some f.first

-- at a point row i is zero where none of the leads l_1 to l_(i-2) is
abbrev pub VanishesBehindLeads : Tables → List ℕ → RemainderRows → Type 0
VanishesBehindLeads d xs r =
    (i : ℕ) (f : Row Polynomial)
    → slice_get r.rows i ≡ Some f
    → AreNonZero d xs (take (i - 2) r.leads)
    → value_at d xs f.first ≡ d.nil

-- and so it is at each point of a finite domain that makes the generators zero
abbrev pub VanishesWithGenerators : ℕ → List Polynomial → RemainderRows → Type 0
VanishesWithGenerators p gs r =
    (d : Tables) (xs : List ℕ)
    → IsPointOver p d xs
    → InZeroSet d xs gs
    → VanishesBehindLeads d xs r
