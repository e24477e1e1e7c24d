-- Equality of the lists of terms.
use Rattle.std.proofs.Common.{◌∙◌, ap₂}
use Rattle.polynomials.specs.Polynomials.{same_polynomial}
use Rattle.sparse_poly.proofs.FirstItems.{pointwise-same_polynomial}
use Rattle.sparse_poly.proofs.poly.PolyPartialEq.eq.Goals as goal

pub returns : goal.returns
returns c = c.eq.ensures ∙ (pointwise-same_polynomial c.self.inside.terms.items c.other.inside.terms.items ∙ ap₂ same_polynomial c.self.view_is c.other.view_is)
