-- Zero sets, triangular sets and their quasi-components.
use Rattle.std.specs.Prelude.{◌≡◌, ◌≢◌, ℕ, suc, ◌≤◌, Bool, true, false, eqb, ltb, List, [], ◌∷◌, map, Option, Some, None}
use Rattle.std.specs.List.{AllByRecursion}
use Rattle.polynomials.specs.Polynomials.{Polynomial}
use Rattle.polynomials.specs.Views.{main_var, initial_of}
pub use Rattle.polynomials.specs.Triangular.{IsTriangularFrom, IsTriangular}
use Rattle.zero_sets.specs.Domains.{Tables, value_at}

-- the point makes each of them zero
abbrev pub InZeroSet : Tables → List ℕ → List Polynomial → Type 0
InZeroSet r xs fs = AllByRecursion (λ f. value_at r xs f ≡ r.nil) fs

-- the point makes none of them zero
abbrev pub AreNonZero : Tables → List ℕ → List Polynomial → Type 0
AreNonZero r xs fs = AllByRecursion (λ f. value_at r xs f ≢ r.nil) fs

-- the quasi-component of a triangular set: its zeros that make no initial zero
abbrev pub InQuasiComponent : Tables → List ℕ → List Polynomial → Type 0
InQuasiComponent r xs chain = InZeroSet r xs chain × AreNonZero r xs (map initial_of chain)

-- the variable is v
abbrev pub is_variable : ℕ → Option ℕ → Bool
is_variable v None = false
is_variable v (Some u) = eqb u v

-- the polynomial with the main variable v, if there is one
abbrev pub member_in : ℕ → List Polynomial → Option Polynomial
member_in v [] = None
member_in v (t ∷ chain) =
    elim (is_variable v (main_var t)) [ true ↦ Some t | false ↦ member_in v chain ]

-- the variable is less than v
abbrev pub is_variable_below : ℕ → Option ℕ → Bool
is_variable_below v None = false
is_variable_below v (Some u) = ltb u v

-- the polynomials whose main variable is less than v
abbrev pub members_below : ℕ → List Polynomial → List Polynomial
members_below v [] = []
members_below v (t ∷ chain) = elim (is_variable_below v (main_var t)) [
  | true ↦ t ∷ members_below v chain
  | false ↦ members_below v chain
]
