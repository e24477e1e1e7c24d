-- A coefficient is canonical where the polynomial is.
use Rattle.std.proofs.Common.{sym, subst}
use Rattle.mono_words.specs.declared.mono.TheConstants.{VARS}
use Rattle.polynomials.specs.Polynomials.{IsPolynomial}
use Rattle.polynomials.specs.Views.{degree_in}
use Rattle.polynomials.proofs.Coefficients.{IsPolynomial-coefficient_in}
use Rattle.sparse_poly.proofs.SortedTerms.{IfOk-implied}
use Rattle.recursive_poly.proofs.rec_poly.RecPoly.lead.Goals as goal

pub returns-clause-over : goal.returns-clause-over
returns-clause-over c = λ p i.
    IfOk-implied _ _ c.lead_in.result
    (λ r e. subst (IsPolynomial p VARS) (sym e) (IsPolynomial-coefficient_in c.variable.result (degree_in c.variable.result c.as_poly.result.now) p VARS c.as_poly.result.now (subst (IsPolynomial p VARS) (sym c.as_poly.ensures.whole) i)))
    c.lead_in.ensures.lead
