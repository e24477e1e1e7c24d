-- The member is the one for its main variable.
use Rattle.std.proofs.Common.{◌≡◌, Some, IfSome, is_some, sym, ap, ◌∙◌, subst}
use Rattle.mono_words.specs.declared.mono.TheConstants.{VARS}
use Rattle.polynomials.specs.Views.{initial_of}
use Rattle.zero_sets.specs.Certificates.{variable_to_certify}
use Rattle.finish_rules.specs.Initials.{regularised}
use Rattle.regularise.specs.Answers.{as_step}
use Rattle.regularise.proofs.EachMember.{certified_main}
use Rattle.regularise.proofs.initials.at_member.Goals as goal

pub regularise-requires-clause-main : goal.regularise-requires-clause-main
regularise-requires-clause-main c =
    let some : variable_to_certify c.args.t.now ≡ Some c.in-Some.v = sym c.in_ok-variable_to_certify.ensures ∙ c.in-Some.is in
    ap is_some (c.requires.member c.in-Some.v (certified_main c.args.t.now c.in-Some.v some))

pub returns-in-None : goal.returns-in-None
returns-in-None c = sym c.in_ok-variable_to_certify.ensures ∙ c.in-None.is

pub returns-in_ok-regularise-in-Some : goal.returns-in_ok-regularise-in-Some
returns-in_ok-regularise-in-Some c =
    let some : variable_to_certify c.args.t.now ≡ Some c.in-Some.v = sym c.in_ok-variable_to_certify.ensures ∙ c.in-Some.is in
    (c.in-Some.v, some, subst (λ o. IfSome o (λ q. as_step c.in_ok-regularise-in-Some.field-0 ≡ regularised c.args.w.now.field VARS c.args.w.now.width c.args.chain.now c.args.nonzero.now c.in-Some.v (initial_of q))) (c.requires.member c.in-Some.v (certified_main c.args.t.now c.in-Some.v some)) c.in_ok-regularise-in-Some.ensures.value)
