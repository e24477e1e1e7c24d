-- What is reduced by a chain, as a fact of its polynomials and of its rows.
use Rattle.std.proofs.Common.{List, [], ◌∷◌}
use Rattle.std.specs.List.{AllByRecursion}
use Rattle.polynomials.specs.Polynomials.{Polynomial}
use Rattle.division_rules.specs.Rows.{plain}
use Rattle.division_rules.specs.Triangular.{HasLessDegree}
use Rattle.row_laws.specs.Words.{IsReducedBy}

-- of its rows
pub rows_reduce : (r : Polynomial) (chain : List Polynomial) → AllByRecursion (λ u. HasLessDegree r (plain u)) chain → IsReducedBy r chain
rows_reduce r [] h = tt
rows_reduce r (t ∷ chain) h = (h.0, rows_reduce r chain h.1)

-- of its polynomials
pub members_reduce : (r : Polynomial) (chain : List Polynomial) → IsReducedBy r chain → AllByRecursion (λ u. HasLessDegree r (plain u)) chain
members_reduce r [] h = tt
members_reduce r (t ∷ chain) h = (h.0, members_reduce r chain h.1)
