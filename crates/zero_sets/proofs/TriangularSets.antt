-- Triangular sets, and their members below a variable.
use Rattle.std.proofs.Common.{ℕ, suc, ◌≤◌, Bool, true, false, List, [], ◌∷◌, arith}
use Rattle.polynomials.specs.Polynomials.{Polynomial}
use Rattle.polynomials.specs.Views.{main_var}
use Rattle.zero_sets.specs.ZeroSets.{IsTriangularFrom, is_variable_below, members_below}

-- a triangular set starts at any lesser variable
pub triangular_sooner : (u v : ℕ) (chain : List Polynomial) → u ≤ v → IsTriangularFrom v chain → IsTriangularFrom u chain
triangular_sooner u v [] up h = tt
triangular_sooner u v (t ∷ chain) up h = let from = h.2 in (h.0, h.1, omega arith, h.3)

-- the members below a variable are triangular
pub below_triangular : (u v : ℕ) (chain : List Polynomial) → IsTriangularFrom u chain → IsTriangularFrom u (members_below v chain)
below_triangular u v [] h = tt
below_triangular u v (t ∷ chain) (m, main, up_to, later) = go (is_variable_below v (main_var t)) (below_triangular (suc m) v chain later)
  where
    go : (b : Bool) → IsTriangularFrom (suc m) (members_below v chain) → IsTriangularFrom u (elim b [ true ↦ t ∷ members_below v chain | false ↦ members_below v chain ])
    go true rest = (m, main, up_to, rest)
    go false rest = triangular_sooner u (suc m) (members_below v chain) (omega (arith, up_to)) rest
