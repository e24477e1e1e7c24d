-- Two signs more make no difference.
use Rattle.std.proofs.Common.{◌≡◌, suc, IfOk, sym, ap, subst, ◌∙◌}
use Rattle.mono_words.specs.declared.mono.TheConstants.{VARS}
use Rattle.polynomials.specs.Polynomials.{Polynomial, negative_of}
use Rattle.division_rules.specs.Operations.{sign}
use Rattle.pseudo_division.specs.FieldOperations.{operations}
use Rattle.subresultants.proofs.Signs.{sign-after_even, sign-after_odd}
use Rattle.subresultants.proofs.divisors.next_sign.Goals as goal

pub returns-then-n-eq0 : goal.returns-then-n-eq0
returns-then-n-eq0 c =
    let same : negative_of c.args.w.now.field c.in_ok-one.one ≡ sign (operations c.args.w.now.field) (suc c.args.n) = ap (negative_of c.args.w.now.field) c.in_ok-one.ensures.value ∙ sym (sign-after_even c.args.w.now.field VARS c.facts.ensures.least c.args.n c.if-n-eq0.true) in
    subst (λ (x : Polynomial). IfOk c.negative.result (λ r. r ≡ x)) same c.negative.ensures.value

pub returns-else-n-eq0 : goal.returns-else-n-eq0
returns-else-n-eq0 c = c.in_ok-one.ensures.value ∙ sym (sign-after_odd c.args.w.now.field VARS c.facts.ensures.least c.args.n c.if-n-eq0.false)
