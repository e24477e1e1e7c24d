-- The terms that are taken are canonical as they stand, and the rest of what the lead makes up.
use Rattle.std.proofs.Common.{◌^◌, ◌∙◌, sym, subst}
use Rattle.mono_words.specs.declared.mono.TheConstants.{VARS}
use Rattle.polynomials.specs.Polynomials.{IsPolynomial}
use Rattle.polynomials.specs.Views.{degree_in}
use Rattle.polynomials.proofs.Coefficients.{IsPolynomial-without_power}
use Rattle.sparse_poly.proofs.Leads.{tail_made}
use Rattle.sparse_poly.proofs.ValueClauses.{splits_value}
use Rattle.sparse_poly.proofs.poly.Poly.tail_in.Goals as goal

pub of-requires : goal.of-requires
of-requires c =
    subst (IsPolynomial (2 ^ 32) VARS)
    (sym (tail_made c.args.v c.degree_in-degree.result c.lead_end-end.result c.loop-t.t-index c.args.self.now c.terms.result.now c.loop-t.terms.items c.terms.ensures.terms c.degree_in-degree.ensures c.lead_end-end.ensures.rest c.loop-t-test.false c.terms-2.result.now _ c.terms-2.ensures.terms c.loop-t.invariant c.in_ok-extend_from_slice.ensures.items))
    (IsPolynomial-without_power c.args.v (degree_in c.args.v c.args.self.now) (2 ^ 32) VARS c.args.self.now c.terms.ensures.canonical)

pub returns-clause-tail : goal.returns-clause-tail
returns-clause-tail c =
    c.of.ensures
    ∙ tail_made c.args.v c.degree_in-degree.result c.lead_end-end.result c.loop-t.t-index c.args.self.now c.terms.result.now c.loop-t.terms.items c.terms.ensures.terms c.degree_in-degree.ensures c.lead_end-end.ensures.rest c.loop-t-test.false c.terms-2.result.now _ c.terms-2.ensures.terms c.loop-t.invariant c.in_ok-extend_from_slice.ensures.items

pub returns-clause-values : goal.returns-clause-values
returns-clause-values c = λ p. splits_value p c.args.v c.args.self.now c.of.result (returns-clause-tail c)
