-- The member for a variable has it as its main one.
use Rattle.std.proofs.Common.{◌≡◌, IfOk, IfSome, sym, subst, ◌^◌}
use Rattle.mono_words.specs.declared.mono.TheConstants.{VARS}
use Rattle.polynomials.specs.Views.{initial_of}
use Rattle.polynomials.proofs.InitialLemmas.{initial_of-lead_in}
use Rattle.chains.proofs.MemberSteps.{member_main, main_variable_small}
use Rattle.chains.proofs.chain.Chain.initial.Goals as goal

pub lead_in-requires : goal.lead_in-requires
lead_in-requires c = main_variable_small (2 ^ 32) VARS c.args.v c.in-Some.t.now c.facts.ensures.canonical (member_main c.args.v c.args.self.now c.in-Some.t.now (sym c.in-Some.ensures))

pub returns : goal.returns
returns c =
    let found = c.in-Some.ensures in
    subst (λ o. IfOk c.lead_in.result (λ r. IfSome o (λ t. r ≡ initial_of t))) found
    (subst (λ x. IfOk c.lead_in.result (λ r. r ≡ x)) (sym (initial_of-lead_in c.args.v c.in-Some.t.now (member_main c.args.v c.args.self.now c.in-Some.t.now (sym found)))) c.lead_in.ensures.lead)
