-- A triangular set with one polynomial put at its main variable.
use Rattle.std.specs.Prelude.{ℕ, Bool, true, false, ltb, List, [], ◌∷◌, ◌++◌, Option, Some, None}
use Rattle.polynomials.specs.Polynomials.{Polynomial}
use Rattle.polynomials.specs.Views.{main_var}
use Rattle.zero_sets.specs.ZeroSets.{members_below}

-- the variable is greater than v
abbrev pub is_variable_above : ℕ → Option ℕ → Bool
is_variable_above v None = false
is_variable_above v (Some u) = ltb v u

-- the polynomials whose main variable is greater than v
abbrev pub members_above : ℕ → List Polynomial → List Polynomial
members_above v [] = []
members_above v (t ∷ chain) = elim (is_variable_above v (main_var t)) [
  | true ↦ t ∷ members_above v chain
  | false ↦ members_above v chain
]

-- the chain with t at the main variable v, in place of the polynomial there if there is one
abbrev pub with_member : ℕ → Polynomial → List Polynomial → List Polynomial
with_member v t chain = members_below v chain ++ t ∷ members_above v chain
