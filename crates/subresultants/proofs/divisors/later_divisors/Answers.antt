-- A product of what isn't 0 isn't 0.
use Rattle.std.proofs.Common.{◌≡◌, ◌≢◌, [], Option, Some, IfSome, subst}
use Rattle.mono_words.specs.declared.mono.TheConstants.{VARS}
use Rattle.polynomials.specs.Polynomials.{Polynomial, IsPolynomial}
use Rattle.division_rules.specs.RemainderRowsWithin.{later_beta_within}
use Rattle.pseudo_division.specs.FieldOperations.{operations}
use Rattle.subresultants.proofs.Nonzero.{power_times_nonzero}
use Rattle.subresultants.proofs.divisors.later_divisors.Goals as goal

pub returns-in-Some-2-clause-nonzero : goal.returns-in-Some-2-clause-nonzero
returns-in-Some-2-clause-nonzero c =
    let some : later_beta_within (operations c.args.w.now.field) c.args.w.now.width c.args.l.now c.in-Some.psi c.args.fall ≡ Some c.in-Some-2.beta = let e = c.in_ok-beta-in-Some.ensures.value in let i = c.in-Some-2.is in cc in
    power_times_nonzero c.args.w.now.field VARS c.facts.ensures.prime c.args.w.now.width c.args.l.now c.in-Some.psi c.args.fall c.in-Some-2.beta c.requires.lead c.requires.some
    (subst (λ (o : Option Polynomial). IfSome o (IsPolynomial c.args.w.now.field VARS)) c.in-Some.is c.in_ok-psi.ensures.over)
    (subst (λ (o : Option Polynomial). IfSome o (λ q. q ≢ [])) c.in-Some.is c.in_ok-psi.ensures.nonzero)
    some
