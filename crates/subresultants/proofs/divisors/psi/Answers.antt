-- Powers of what isn't 0 aren't 0.
use Rattle.std.proofs.Common.{◌≡◌, Some}
use Rattle.mono_words.specs.declared.mono.TheConstants.{VARS}
use Rattle.division_rules.specs.Within.{power_of_within}
use Rattle.pseudo_division.specs.FieldOperations.{operations}
use Rattle.subresultants.proofs.Nonzero.{power_of_within_nonzero}
use Rattle.subresultants.proofs.divisors.psi.Goals as goal

pub quotient_or_itself-requires-clause-some : goal.quotient_or_itself-requires-clause-some
quotient_or_itself-requires-clause-some c =
    let some : power_of_within (operations c.args.w.now.field) c.args.w.now.width c.args.l.now c.args.before.now.1 ≡ Some c.in-Some.top = let e = c.in_ok-power.ensures.value in let i = c.in-Some.is in cc in
    power_of_within_nonzero c.args.w.now.field VARS c.facts.ensures.prime c.args.w.now.width c.args.l.now c.args.before.now.1 c.in-Some.top c.requires.lead c.requires.some some

pub quotient_or_itself-requires-clause-nonzero : goal.quotient_or_itself-requires-clause-nonzero
quotient_or_itself-requires-clause-nonzero c =
    let some : power_of_within (operations c.args.w.now.field) c.args.w.now.width c.args.before.now.0 c.saturating_sub.result ≡ Some c.in-Some-2.low = let e = c.in_ok-power-in-Some.ensures.value in let i = c.in-Some-2.is in cc in
    power_of_within_nonzero c.args.w.now.field VARS c.facts.ensures.prime c.args.w.now.width c.args.before.now.0 c.saturating_sub.result c.in-Some-2.low c.requires.before c.requires.before_some some
