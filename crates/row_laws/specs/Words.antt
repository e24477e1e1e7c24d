-- Reductions by lists of polynomials, and where remainder rows start.
use Rattle.std.specs.Prelude.{◌≡◌, ℕ, ◌<◌, ◌≤◌, true, List, [], ◌∷◌}
use Rattle.polynomials.specs.Polynomials.{Polynomial}
use Rattle.polynomials.specs.Views.{degree_in, main_var}
use Rattle.zero_sets.specs.ZeroSets.{IsTriangular, is_variable_below}
use Rattle.division_rules.specs.Chains.{EachRow}
use Rattle.division_rules.specs.Lists.{list_operations}
use Rattle.division_rules.specs.Rows.{plain, plains, pseudo_remainder, reduction}
use Rattle.division_rules.specs.Triangular.{HasLessDegree}

-- the pseudo-remainder of f by g in v
abbrev pub pseudo_remainder_of : ℕ → ℕ → ℕ → Polynomial → Polynomial → Polynomial
pseudo_remainder_of p n v f g =
    (pseudo_remainder (list_operations p n) v (plain f) (plain g)).first

-- the reduction of f by a list of polynomials
abbrev pub reduction_of : ℕ → ℕ → List Polynomial → Polynomial → Polynomial
reduction_of p n chain f = (reduction (list_operations p n) (plains chain) (plain f)).first

-- f is reduced by the chain: its degree in each main variable is less than that of the polynomial
-- with that main variable
abbrev pub IsReducedBy : Polynomial → List Polynomial → Type 0
IsReducedBy f chain = EachRow (HasLessDegree f) (plains chain)

-- each has a main variable less than v
abbrev pub AreBelow : ℕ → List Polynomial → Type 0
AreBelow v [] = Unit {0}
AreBelow v (t ∷ chain) = (is_variable_below v (main_var t) ≡ true) × AreBelow v chain

-- t and c start remainder rows in v below the chain: a triangular set with lesser main variables
-- reduces c, and the degree of c in v is at least 1 and less than that of t
pub record StartRemainderRows (v : ℕ) (chain : List Polynomial) (t c : Polynomial) : Type 0 where
  pub triangular : IsTriangular chain
  pub below : AreBelow v chain
  pub reduced : IsReducedBy c chain
  pub occurs : 1 ≤ degree_in v c
  pub falls : degree_in v c < degree_in v t
