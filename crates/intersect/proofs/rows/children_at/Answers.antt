-- The member of the chain and what is reduced by it start remainder rows.
use Rattle.std.proofs.Common.{sym, ap, ◌∙◌, subst}
use Rattle.mono_words.specs.declared.mono.TheConstants.{VARS}
use Rattle.zero_sets.specs.ZeroSets.{IsTriangular, member_in, members_below}
use Rattle.zero_sets.specs.Tasks.{Task}
use Rattle.chains.proofs.MemberSteps.{main_variable_small}
use Rattle.sparse_poly.proofs.SortedTerms.{IfOk-implied}
use Rattle.intersect.proofs.RowChildren.{member_kids, member_canonical, lower_canonical, rows_start}
use Rattle.intersect.proofs.rows.children_at.Goals as goal

pub remainder_rows-requires-clause-variable : goal.remainder_rows-requires-clause-variable
remainder_rows-requires-clause-variable c = main_variable_small c.args.w.now.field VARS c.args.v c.args.r c.requires.head c.requires.variable

pub remainder_rows-requires-clause-first : goal.remainder_rows-requires-clause-first
remainder_rows-requires-clause-first c =
    let chain = ap (λ (t : Task). t.chain) c.left.view_is in
    member_canonical c.args.w.now.field c.args.w.now.width c.args.v c.args.r c.args.left c.facts.ensures.prime c.requires.over (subst IsTriangular chain c.facts-2.ensures.triangular) c.requires.head c.requires.reduced c.requires.variable c.in-Some.t.now (sym (c.in-Some.ensures ∙ ap (member_in c.args.v) chain))

pub remainder_rows-requires-clause-chain : goal.remainder_rows-requires-clause-chain
remainder_rows-requires-clause-chain c =
    let chain = ap (λ (t : Task). t.chain) c.left.view_is in
    lower_canonical c.args.w.now.field c.args.w.now.width c.args.v c.args.r c.args.left c.facts.ensures.prime c.requires.over (subst IsTriangular chain c.facts-2.ensures.triangular) c.requires.head c.requires.reduced c.requires.variable c.in-Some.t.now (sym (c.in-Some.ensures ∙ ap (member_in c.args.v) chain)) c.in_ok-below-in-Some.below (c.in_ok-below-in-Some.ensures ∙ ap (members_below c.args.v) chain)

pub remainder_rows-requires-clause-start : goal.remainder_rows-requires-clause-start
remainder_rows-requires-clause-start c =
    let chain = ap (λ (t : Task). t.chain) c.left.view_is in
    rows_start c.args.w.now.field c.args.w.now.width c.args.v c.args.r c.args.left c.facts.ensures.prime c.requires.over (subst IsTriangular chain c.facts-2.ensures.triangular) c.requires.head c.requires.reduced c.requires.variable c.in-Some.t.now (sym (c.in-Some.ensures ∙ ap (member_in c.args.v) chain)) c.in_ok-below-in-Some.below (c.in_ok-below-in-Some.ensures ∙ ap (members_below c.args.v) chain)

pub returns-in_ok-remainders-in-Some : goal.returns-in_ok-remainders-in-Some
returns-in_ok-remainders-in-Some c =
    let chain = ap (λ (t : Task). t.chain) c.left.view_is in
    IfOk-implied _ _ c.children_by.result (λ kids made. member_kids c.args.w.now.field c.args.w.now.width c.args.v c.args.r c.args.left c.facts.ensures.prime c.requires.over (subst IsTriangular chain c.facts-2.ensures.triangular) c.requires.head c.requires.reduced c.requires.variable c.in-Some.t.now (sym (c.in-Some.ensures ∙ ap (member_in c.args.v) chain)) c.in_ok-below-in-Some.below c.in_ok-remainders-in-Some.remainders kids (c.in_ok-below-in-Some.ensures ∙ ap (members_below c.args.v) chain) c.in_ok-remainders-in-Some.ensures.value made) c.children_by.ensures
