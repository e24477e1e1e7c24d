-- A coefficient of a canonical polynomial is canonical.
use Rattle.std.proofs.Common.{sym, subst}
use Rattle.mono_words.specs.declared.mono.TheConstants.{VARS}
use Rattle.polynomials.specs.Polynomials.{IsPolynomial}
use Rattle.polynomials.specs.Views.{degree_in}
use Rattle.polynomials.proofs.Coefficients.{IsPolynomial-coefficient_in}
use Rattle.sparse_poly.proofs.SortedTerms.{IfOk-implied}
use Rattle.pseudo_division.proofs.leads.lead.Goals as goal

pub returns-clause-over : goal.returns-clause-over
returns-clause-over c =
    IfOk-implied _ _ c.lead_in.result
    (λ r e. subst (IsPolynomial c.args.w.now.field VARS) (sym e) (IsPolynomial-coefficient_in c.args.v (degree_in c.args.v c.args.a.now) c.args.w.now.field VARS c.args.a.now c.requires.over))
    c.lead_in.ensures.lead
