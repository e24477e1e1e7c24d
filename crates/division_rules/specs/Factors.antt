-- What is another polynomial times members of a list.
use Rattle.std.specs.Prelude.{◌≡◌, ℕ, List, All, Contains}
use Rattle.polynomials.specs.Polynomials.{Polynomial, product_of}
use Rattle.division_rules.specs.Lists.{list_operations}
use Rattle.division_rules.specs.Points.{product_of_all}

-- f is g times a product of members of bs, each as often as need be
abbrev pub IsProductByMembers : ℕ → ℕ → List Polynomial → Polynomial → Polynomial → Type 0
IsProductByMembers p n bs f g =
    (cs : List Polynomial)
    × All (Contains bs) cs
    × (product_of p g (product_of_all (list_operations p n) cs) ≡ f)
