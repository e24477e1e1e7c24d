-- The degrees are those of the terms.
use Rattle.std.proofs.Common.{◌∙◌, ap}
use Rattle.polynomials.specs.Views.{degree_in}
use Rattle.sparse_poly.proofs.poly.Poly.of.Goals as goal

pub invariant_of-result : goal.invariant_of-result
invariant_of-result c = (c.requires, λ v. c.degrees-degrees.ensures v ∙ ap (degree_in v) c.deref.ensures.value)
