-- The value of a sum.
use Rattle.std.proofs.Common.{ap₂, ◌∙◌}
use Rattle.polynomials.specs.Polynomials.{sum_of}
use Rattle.sparse_poly.proofs.ValueClauses.{has_value_of_sum}
use Rattle.sparse_poly.proofs.poly.Poly.add.Goals as goal

pub returns-clause-values : goal.returns-clause-values
returns-clause-values c = has_value_of_sum c.args.f c.args.self.now c.args.other.now c.over.result (c.over.ensures ∙ (c.in_ok-terms.ensures.value ∙ ap₂ (sum_of c.args.f) c.terms.ensures.terms c.terms-2.ensures.terms))
