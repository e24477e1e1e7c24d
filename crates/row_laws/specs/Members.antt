-- The polynomial of a triangular set with a given main variable, and those below it.
use Rattle.std.specs.Prelude.{◌≡◌, ◌≢◌, ℕ, ◌<◌, ◌≤◌, List, ◌∷◌, ◌++◌, Some}
use Rattle.std.specs.List.{AllByRecursion}
use Rattle.polynomials.specs.Polynomials.{Polynomial}
use Rattle.polynomials.specs.Views.{degree_in, lead_in, main_var, IsFreeOf}
use Rattle.zero_sets.specs.Domains.{Tables, value_at}
use Rattle.zero_sets.specs.ZeroSets.{InQuasiComponent, IsTriangular, member_in, members_below}
use Rattle.row_laws.specs.Words.{IsReducedBy, StartRemainderRows}

-- t has the main variable v, and the triangular set consists of those below it, t, and more
pub record IsMember (v : ℕ) (chain : List Polynomial) (t : Polynomial) : Type 0 where
  pub main : main_var t ≡ Some v
  pub more : List Polynomial
  pub parts : chain ≡ members_below v chain ++ t ∷ more

-- so is the polynomial that is found for v
abbrev pub MembersArePlaced : Type 0
MembersArePlaced =
    (v : ℕ) (chain : List Polynomial) (t : Polynomial)
    → IsTriangular chain
    → member_in v chain ≡ Some t
    → IsMember v chain t

-- those below v, where u < v is a main variable: those below u, the one for u, and more
abbrev pub MembersAreSplit : Type 0
MembersAreSplit =
    (u v : ℕ) (chain : List Polynomial) (t : Polynomial)
    → u < v
    → IsTriangular chain
    → member_in u chain ≡ Some t
    → (more : List Polynomial)
    × (members_below v chain ≡ members_below u chain ++ t ∷ more)

-- no main variable of the chain from u on occurs in f
abbrev pub LacksMainFrom : ℕ → Polynomial → List Polynomial → Type 0
LacksMainFrom u f chain =
    AllByRecursion (λ t. (x : ℕ) → main_var t ≡ Some x → u ≤ x → IsFreeOf x f) chain

-- what those below u reduce, and lacks the main variables from u on, is reduced by the whole set
abbrev pub ReducedByWhole : Type 0
ReducedByWhole =
    (u : ℕ) (chain : List Polynomial) (f : Polynomial)
    → IsReducedBy f (members_below u chain)
    → LacksMainFrom u f chain
    → IsReducedBy f chain

-- below it remainder rows start with it and each polynomial that is reduced by the set and has v
abbrev pub MembersStartRemainderRows : Type 0
MembersStartRemainderRows =
    (v : ℕ) (chain : List Polynomial) (t c : Polynomial)
    → IsTriangular chain
    → member_in v chain ≡ Some t
    → IsReducedBy c chain
    → 1 ≤ degree_in v c
    → StartRemainderRows v (members_below v chain) t c

-- at a point of the quasi-component of the set: a point of that of the polynomials below v, where t
-- is zero and its lead isn't
pub record IsPointAtMember
    (v : ℕ) (r : Tables) (xs : List ℕ) (chain : List Polynomial) (t : Polynomial) : Type 0 where
  pub below : InQuasiComponent r xs (members_below v chain)
  pub zero : value_at r xs t ≡ r.nil
  pub lead : value_at r xs (lead_in v t) ≢ r.nil

-- each point of the quasi-component is one
abbrev pub PointsAtMembers : Type 0
PointsAtMembers =
    (v : ℕ) (r : Tables) (xs : List ℕ) (chain : List Polynomial) (t : Polynomial)
    → IsTriangular chain
    → member_in v chain ≡ Some t
    → InQuasiComponent r xs chain
    → IsPointAtMember v r xs chain t
