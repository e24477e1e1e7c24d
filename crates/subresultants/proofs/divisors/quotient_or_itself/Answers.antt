-- A quotient by 1 is the polynomial itself.
use Rattle.std.proofs.Common.{sym, ap, ◌∙◌, unwrap_or}
use Rattle.mono_words.specs.declared.mono.TheConstants.{VARS}
use Rattle.division_rules.specs.Quotients.{quotient_within}
use Rattle.subresultants.proofs.OneQuotients.{quotient_or_itself-one}
use Rattle.subresultants.proofs.divisors.quotient_or_itself.Goals as goal

pub returns-then-whole-clause-value : goal.returns-then-whole-clause-value
returns-then-whole-clause-value c =
    let one = c.in_ok-whole.ensures.0 c.if-whole.true in
    sym (ap (λ b. unwrap_or (quotient_within c.args.w.now.field c.args.w.now.width c.args.a b) c.args.a) one ∙ quotient_or_itself-one c.args.w.now.field VARS c.facts.ensures.prime c.args.w.now.width c.args.a c.requires.left)
