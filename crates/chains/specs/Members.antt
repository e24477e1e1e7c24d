-- A triangular set with a polynomial at its main variable, and which polynomials it takes there.
use Rattle.std.specs.Prelude.{◌≡◌, ℕ, ◌<◌, List, Option, Some, None}
use Rattle.polynomials.specs.Polynomials.{Polynomial}
use Rattle.polynomials.specs.Views.{degree_in, main_var}
use Rattle.zero_sets.specs.ZeroSets.{member_in}
use Rattle.impose_rules.specs.Chains.{with_member}
use Rattle.impose_rules.specs.Laws.{ChangesMember}

-- the chain with t at the variable, where there is one
abbrev pub with_member_at : Option ℕ → Polynomial → List Polynomial → List Polynomial
with_member_at None t chain = chain
with_member_at (Some v) t chain = with_member v t chain

-- the chain with t at its main variable
abbrev pub with_polynomial : Polynomial → List Polynomial → List Polynomial
with_polynomial t chain = with_member_at (main_var t) t chain

-- changed has t at its main variable, and at every other variable what the chain has there
abbrev pub ChangesOne : Polynomial → List Polynomial → List Polynomial → Type 0
ChangesOne t chain changed = (v : ℕ) → main_var t ≡ Some v → ChangesMember v t chain changed

-- t has a main variable, and the chain has no polynomial with it
abbrev pub IsNewMember : Polynomial → List Polynomial → Type 0
IsNewMember t chain = (v : ℕ) × (main_var t ≡ Some v) × (member_in v chain ≡ None)

-- t has a main variable, and the chain has a polynomial with it, of greater degree in it
abbrev pub LowersMember : Polynomial → List Polynomial → Type 0
LowersMember t chain =
    (v : ℕ) × (u : Polynomial) × (main_var t ≡ Some v) × (member_in v chain ≡ Some u)
    × (degree_in v t < degree_in v u)
