-- Remainders of polynomials by a triangular set.
use Rattle.std.specs.Prelude.{ℕ, List, Option, Some}
use Rattle.polynomials.specs.Polynomials.{Polynomial}
use Rattle.division_rules.specs.Lists.{list_operations}
use Rattle.division_rules.specs.Rows.{plain, plains}
use Rattle.division_rules.specs.Within.{and_then, reduction_within}

-- in n variables modulo p, f reduced by the chain; None where a product doesn't fit the width w
abbrev pub remainder_of : ℕ → ℕ → ℕ → List Polynomial → Polynomial → Option Polynomial
remainder_of p n w chain f =
    and_then (reduction_within (list_operations p n) w (plains chain) (plain f))
    (λ g. Some g.first)
