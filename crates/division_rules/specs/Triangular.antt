-- Triangular sets of rows of lists of terms, and what is reduced by one.
use Rattle.std.specs.Prelude.{◌≡◌, ℕ, ◌<◌, List, Some}
use Rattle.polynomials.specs.Polynomials.{Polynomial}
use Rattle.polynomials.specs.Views.{degree_in, main_var}
use Rattle.polynomials.specs.Triangular.{IsTriangular}
use Rattle.division_rules.specs.Rows.{Row, first_entries}

-- the first entries are a triangular set
abbrev pub AreTriangular : List (Row Polynomial) → Type 0
AreTriangular chain = IsTriangular (first_entries chain)

-- the degree of h in the main variable of t is less than that of t
abbrev pub HasLessDegree : Polynomial → Row Polynomial → Type 0
HasLessDegree h t = (v : ℕ) → main_var t.first ≡ Some v → degree_in v h < degree_in v t.first
