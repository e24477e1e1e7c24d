-- What the cofactor of c shows, where remainder rows with cofactors of c, t and a chain end as
-- common.
use Rattle.std.specs.Prelude.{◌≡◌, ◌≢◌, ℕ, List, [], ◌∷◌, ◌++◌, map, Any, Some, None}
use Rattle.mono_words.specs.declared.mono.TheConstants.{VARS}
use Rattle.polynomials.specs.Polynomials.{Polynomial}
use Rattle.polynomials.specs.Views.{degree_in, lead_in, initial_of}
use Rattle.zero_sets.specs.Domains.{Tables, IsPointOver, value_at}
use Rattle.zero_sets.specs.ZeroSets.{InQuasiComponent, AreNonZero}
use Rattle.division_rules.specs.Rows.{Row}
use Rattle.division_rules.specs.Units.{unit_rows}
use Rattle.division_rules.specs.Cofactors.{first_cofactor, AreCofactorSteps}
use Rattle.pseudo_division.specs.FieldOperations.{operations}
use Rattle.row_laws.specs.Words.{reduction_of}
use Rattle.cofactor_laws.specs.Laws.{StandsInTriangular}
use Rattle.subresultants.specs.AllRows.{RemainderRows, AllRemainders, Coprime, Common, TooWide}

-- P holds of common rows and their zero row
abbrev pub IfCommon : (RemainderRows → Row Polynomial → Type 0) → AllRemainders → Type 0
IfCommon P (Coprime r) = Unit {0}
IfCommon P (Common r z) = P r z
IfCommon P TooWide = Unit {0}

-- each row after the first two, and the zero row z, is a step of the cofactor of c: its degree
-- grows as those of the rows fall, and its lead is a product of initials and leads (IsCofactorStep)
abbrev pub CofactorStepsAlong :
    ℕ → ℕ → ℕ → List Polynomial → List (Row Polynomial) → Row Polynomial → Type 0
CofactorStepsAlong p w v chain [] z = ⊥
CofactorStepsAlong p w v chain (t ∷ []) z = ⊥
CofactorStepsAlong p w v chain (t ∷ c ∷ later) z =
    AreCofactorSteps (operations p) w v (unit_rows (operations p) 2 chain) (degree_in v t.first)
    None t c later (Some z)

-- so are the rows of an outcome
abbrev pub HasCofactorSteps : ℕ → ℕ → ℕ → List Polynomial → RemainderRows → Row Polynomial → Type 0
HasCofactorSteps p w v chain r z = CofactorStepsAlong p w v chain r.rows z

-- a lead of the rows is zero at a point
abbrev pub SomeLeadVanishes : Tables → List ℕ → RemainderRows → Type 0
SomeLeadVanishes d xs r = Any (λ l. value_at d xs l ≡ d.nil) r.leads

-- where no initial of the chain is zero, nor the lead of t, the lead of the zero row's cofactor of
-- c is zero only where a lead of the rows is
abbrev pub VanishesByLeads :
    ℕ → ℕ → Polynomial → List Polynomial → RemainderRows → Row Polynomial → Type 0
VanishesByLeads p v t chain r z =
    (d : Tables) (xs : List ℕ)
    → IsPointOver p d xs
    → AreNonZero d xs (map initial_of chain)
    → value_at d xs (lead_in v t) ≢ d.nil
    → value_at d xs (lead_in v (first_cofactor (operations p) z)) ≡ d.nil
    → SomeLeadVanishes d xs r

-- in a triangular set that goes on with more: on the quasi-component of the chain, where the lead
-- of t isn't zero, and the zero row's cofactor of c reduces to 0, a lead of the rows is zero
abbrev pub ShowsLeadWhereReduced :
    ℕ → ℕ → Polynomial → Polynomial → List Polynomial → RemainderRows → Row Polynomial → Type 0
ShowsLeadWhereReduced p v t c chain r z =
    (d : Tables) (xs : List ℕ) (more : List Polynomial)
    → StandsInTriangular p VARS v t c chain more
    → IsPointOver p d xs
    → InQuasiComponent d xs chain
    → value_at d xs (lead_in v t) ≢ d.nil
    → reduction_of p VARS (chain ++ t ∷ more) (first_cofactor (operations p) z) ≡ []
    → SomeLeadVanishes d xs r
