-- The terms that are taken are canonical as they stand.
use Rattle.std.proofs.Common.{◌≡◌, ◌^◌, ◌∙◌, sym, subst}
use Rattle.mono_words.specs.declared.mono.TheConstants.{VARS}
use Rattle.polynomials.specs.Polynomials.{IsPolynomial}
use Rattle.polynomials.specs.Views.{degree_in, lead_in}
use Rattle.polynomials.proofs.Coefficients.{IsPolynomial-coefficient_in}
use Rattle.sparse_poly.proofs.Leads.{lead_found}
use Rattle.sparse_poly.proofs.poly.Poly.lead_in.Goals as goal
use Rattle.sparse_poly.proofs.poly.Poly.lead_in.Goals.{After-loop-t}

-- what was taken is the lead
found : (c : After-loop-t) → c.loop-t.terms.items ≡ lead_in c.args.v c.args.self.now
found c = lead_found c.args.v c.degree_in-degree.result c.lead_end-end.result c.loop-t.t-index c.args.self.now c.terms.result.now c.loop-t.terms.items c.terms.ensures.terms c.degree_in-degree.ensures c.lead_end-end.ensures.rest c.loop-t-test.false c.loop-t.invariant

pub of-requires : goal.of-requires
of-requires c =
    subst (IsPolynomial (2 ^ 32) VARS)
    (sym (found c))
    (IsPolynomial-coefficient_in c.args.v (degree_in c.args.v c.args.self.now) (2 ^ 32) VARS c.args.self.now c.terms.ensures.canonical)

pub returns : goal.returns
returns c = record {
  lead = c.of.ensures ∙ lead_found c.args.v c.degree_in-degree.result c.lead_end-end.result c.loop-t.t-index c.args.self.now c.terms.result.now c.loop-t.terms.items c.terms.ensures.terms c.degree_in-degree.ensures c.lead_end-end.ensures.rest c.loop-t-test.false c.loop-t.invariant;
}
