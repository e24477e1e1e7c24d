-- Triangular sets of polynomials.
use Rattle.std.specs.Prelude.{◌≡◌, ℕ, suc, ◌≤◌, List, [], ◌∷◌, Some}
use Rattle.polynomials.specs.Polynomials.{Polynomial}
use Rattle.polynomials.specs.Views.{main_var}

-- none is constant, and the main variables strictly increase from at least v
abbrev pub IsTriangularFrom : ℕ → List Polynomial → Type 0
IsTriangularFrom v [] = Unit {0}
IsTriangularFrom v (t ∷ chain) =
    (u : ℕ) × (main_var t ≡ Some u) × (v ≤ u) × IsTriangularFrom (suc u) chain

-- a triangular set: non-constant polynomials with strictly increasing main variables
abbrev pub IsTriangular : List Polynomial → Type 0
IsTriangular chain = IsTriangularFrom 0 chain
