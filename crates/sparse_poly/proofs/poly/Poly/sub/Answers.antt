-- The value of a difference.
use Rattle.std.proofs.Common.{ap₂, ◌∙◌}
use Rattle.mono_words.specs.declared.mono.TheConstants.{VARS}
use Rattle.polynomials.specs.Polynomials.{difference_of}
use Rattle.sparse_poly.proofs.ValueClauses.{has_value_of_difference}
use Rattle.sparse_poly.proofs.poly.Poly.sub.Goals as goal

pub returns-clause-values : goal.returns-clause-values
returns-clause-values c = has_value_of_difference c.args.f VARS c.args.self.now c.args.other.now c.over.result c.requires.right (c.over.ensures ∙ (c.in_ok-terms.ensures.value ∙ ap₂ (difference_of c.args.f) c.terms.ensures.terms c.terms-2.ensures.terms))
