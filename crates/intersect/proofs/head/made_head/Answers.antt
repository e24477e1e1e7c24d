-- The rows of a triangular set are triangular.
use Rattle.std.proofs.Common.{List, sym, subst}
use Rattle.polynomials.specs.Polynomials.{Polynomial}
use Rattle.division_rules.specs.Rows.{plains}
use Rattle.division_rules.specs.Triangular.{AreTriangular}
use Rattle.impose_rules.proofs.ChainParts.{triangular_plains}
use Rattle.intersect.proofs.head.made_head.Goals as goal

pub reduce-requires-clause-triangular : goal.reduce-requires-clause-triangular
reduce-requires-clause-triangular c = subst (λ (chain : List Polynomial). AreTriangular (plains chain)) (sym c.polys.ensures.value) (triangular_plains 0 _ c.polys.ensures.triangular)
