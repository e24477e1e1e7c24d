-- The lead of what isn't 0 is canonical and not 0; nor are 1 and -1.
use Rattle.std.proofs.Common.{◌≢◌, suc, [], sym, subst}
use Rattle.mono_words.specs.declared.mono.TheConstants.{VARS}
use Rattle.polynomials.specs.Polynomials.{Polynomial, IsPolynomial}
use Rattle.polynomials.specs.Views.{degree_in}
use Rattle.polynomials.proofs.Coefficients.{IsPolynomial-coefficient_in}
use Rattle.polynomials.proofs.Degrees.{lead_in_nonzero}
use Rattle.division_rules.specs.Rows.{Row}
use Rattle.division_rules.proofs.CanonicalRows.{IsPolynomial-sign}
use Rattle.subresultants.proofs.Nonzero.{negative_of_nonzero, sign_nonzero}
use Rattle.subresultants.proofs.divisors.divisors.Goals as goal

pub negative-requires : goal.negative-requires
negative-requires c =
    let over : IsPolynomial c.args.w.now.field VARS c.f.inside.first = subst (λ (f : Row Polynomial). IsPolynomial c.args.w.now.field VARS f.first) (sym c.f.view_is) c.requires.row.0 in
    subst (IsPolynomial c.args.w.now.field VARS) (sym c.in_ok-lead-in-Some.ensures.lead) (IsPolynomial-coefficient_in c.args.v (degree_in c.args.v c.f.inside.first) c.args.w.now.field VARS c.f.inside.first over)

pub later_divisors-requires-clause-some : goal.later_divisors-requires-clause-some
later_divisors-requires-clause-some c =
    let some : c.f.inside.first ≢ [] = subst (λ (f : Row Polynomial). f.first ≢ []) (sym c.f.view_is) c.requires.some in
    let lead_some : c.in_ok-lead-in-Some.lead ≢ [] = subst (λ (f : Polynomial). f ≢ []) (sym c.in_ok-lead-in-Some.ensures.lead) (lead_in_nonzero c.args.v c.f.inside.first some) in
    subst (λ (f : Polynomial). f ≢ []) (sym c.in_ok-l-in-Some.ensures.value) (negative_of_nonzero c.args.w.now.field c.in_ok-lead-in-Some.lead lead_some)

pub returns-in_ok-first_divisors-in-None-clause-over : goal.returns-in_ok-first_divisors-in-None-clause-over
returns-in_ok-first_divisors-in-None-clause-over c = subst (IsPolynomial c.args.w.now.field VARS) (sym c.in_ok-first_divisors-in-None.ensures.beta) (IsPolynomial-sign c.args.w.now.field VARS c.facts.ensures.least (suc c.args.fall))

pub returns-in_ok-first_divisors-in-None-clause-nonzero : goal.returns-in_ok-first_divisors-in-None-clause-nonzero
returns-in_ok-first_divisors-in-None-clause-nonzero c = subst (λ (f : Polynomial). f ≢ []) (sym c.in_ok-first_divisors-in-None.ensures.beta) (sign_nonzero c.args.w.now.field VARS c.facts.ensures.prime (suc c.args.fall))
