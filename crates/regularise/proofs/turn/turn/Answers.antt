-- The member at the variable starts remainder rows with the polynomial so far.
use Rattle.std.proofs.Common.{◌≡◌, ◌≤◌, true, None, sym, ap, ◌∙◌, subst, arith}
use Rattle.mono_words.specs.declared.mono.TheConstants.{VARS}
use Rattle.polynomials.specs.Polynomials.{Polynomial}
use Rattle.polynomials.specs.Views.{degree_in}
use Rattle.zero_sets.specs.ZeroSets.{member_in}
use Rattle.row_laws.specs.Words.{StartRemainderRows}
use Rattle.subresultants.specs.Ends.{ends_of}
use Rattle.subresultants.specs.Outcomes.{remainders_of}
use Rattle.sparse_poly.proofs.SortedTerms.{IfOk-implied}
use Rattle.certificates.proofs.Members.{lower_canonical}
use Rattle.regularise.proofs.Identities.{turn_variable, absent_kept, free_kept, turn_canonical, turn_room, turn_starts, turn_counts, made_step, further_identity}
use Rattle.regularise.proofs.turn.turn.Goals as goal

pub degree_in-requires : goal.degree_in-requires
degree_in-requires c = turn_variable c.args.w.now.field c.args.u c.args.chain.now c.args.sofar.row c.requires

pub returns-in-None-clause-identity : goal.returns-in-None-clause-identity
returns-in-None-clause-identity c =
    let none : member_in c.args.u c.args.chain.now ≡ None = sym c.in-None.ensures in
    absent_kept c.args.w.now.field c.args.u c.args.chain.now c.args.sofar.row c.requires none

pub returns-then-degree_in-eq0-clause-identity : goal.returns-then-degree_in-eq0-clause-identity
returns-then-degree_in-eq0-clause-identity c = free_kept c.args.w.now.field c.args.u c.args.chain.now c.args.sofar.row c.requires (sym (c.degree_in.ensures ∙ ap (degree_in c.args.u) c.first-f.ensures) ∙ c.if-degree_in-eq0.true)

pub remainder_rows-requires-clause-variable : goal.remainder_rows-requires-clause-variable
remainder_rows-requires-clause-variable c = turn_variable c.args.w.now.field c.args.u c.args.chain.now c.args.sofar.row c.requires

pub remainder_rows-requires-clause-first : goal.remainder_rows-requires-clause-first
remainder_rows-requires-clause-first c = turn_canonical c.args.w.now.field c.args.u c.args.chain.now c.args.sofar.row c.requires c.in-Some.t.now (sym c.in-Some.ensures)

pub remainder_rows-requires-clause-chain : goal.remainder_rows-requires-clause-chain
remainder_rows-requires-clause-chain c = lower_canonical c.args.w.now.field VARS c.args.u c.args.chain.now c.in_ok-below-in-Some.below c.requires.member.canonical c.in_ok-below-in-Some.ensures

pub remainder_rows-requires-clause-start : goal.remainder_rows-requires-clause-start
remainder_rows-requires-clause-start c =
    let occurs : 1 ≤ degree_in c.args.u c.args.sofar.row.first = let d = c.degree_in.ensures ∙ ap (degree_in c.args.u) c.first-f.ensures in let some = c.if-degree_in-eq0.false in omega arith in
    subst (StartRemainderRows c.args.u c.in_ok-below-in-Some.below c.in-Some.t.now) (sym c.first-f.ensures) (turn_starts c.args.w.now.field c.args.u c.args.chain.now c.args.sofar.row c.requires c.in-Some.t.now (sym c.in-Some.ensures) occurs c.in_ok-below-in-Some.below c.in_ok-below-in-Some.ensures)

pub turn_by-requires-clause-room : goal.turn_by-requires-clause-room
turn_by-requires-clause-room c = turn_room c.args.w.now.field c.args.u c.args.chain.now c.args.sofar.row c.requires c.in-Some.t.now (sym c.in-Some.ensures) c.count.result c.in_ok-below-in-Some.below c.count.ensures c.in_ok-below-in-Some.ensures

pub turn_by-requires-clause-counts : goal.turn_by-requires-clause-counts
turn_by-requires-clause-counts c =
    let occurs : 1 ≤ degree_in c.args.u c.args.sofar.row.first = let d = c.degree_in.ensures ∙ ap (degree_in c.args.u) c.first-f.ensures in let some = c.if-degree_in-eq0.false in omega arith in
    turn_counts c.args.w.now.field c.args.u c.args.chain.now c.args.sofar.row c.requires c.in-Some.t.now (sym c.in-Some.ensures) occurs c.args.w.now.width c.count.result c.in_ok-below-in-Some.below c.count.ensures c.in_ok-below-in-Some.ensures c.in_ok-remainders-in-Some.remainders (c.in_ok-remainders-in-Some.ensures.value ∙ ap (λ (f : Polynomial). ends_of (remainders_of c.args.w.now.field c.args.w.now.width c.args.u true c.in-Some.t.now f c.in_ok-below-in-Some.below)) c.first-f.ensures)

pub returns-in_ok-remainders-in-Some-clause-step : goal.returns-in_ok-remainders-in-Some-clause-step
returns-in_ok-remainders-in-Some-clause-step c =
    let occurs : 1 ≤ degree_in c.args.u c.args.sofar.row.first = let d = c.degree_in.ensures ∙ ap (degree_in c.args.u) c.first-f.ensures in let some = c.if-degree_in-eq0.false in omega arith in
    IfOk-implied _ _ c.turn_by.result (λ r each. made_step c.args.w.now.field c.args.w.now.width c.args.u c.args.chain.now c.args.nonzero.now c.args.sofar c.requires c.in-Some.t.now (sym c.in-Some.ensures) occurs c.in_ok-below-in-Some.below c.in_ok-remainders-in-Some.remainders r c.in_ok-below-in-Some.ensures (c.in_ok-remainders-in-Some.ensures.value ∙ ap (λ (f : Polynomial). ends_of (remainders_of c.args.w.now.field c.args.w.now.width c.args.u true c.in-Some.t.now f c.in_ok-below-in-Some.below)) c.first-f.ensures) each) c.turn_by.ensures

pub returns-in_ok-remainders-in-Some-clause-identity : goal.returns-in_ok-remainders-in-Some-clause-identity
returns-in_ok-remainders-in-Some-clause-identity c =
    let occurs : 1 ≤ degree_in c.args.u c.args.sofar.row.first = let d = c.degree_in.ensures ∙ ap (degree_in c.args.u) c.first-f.ensures in let some = c.if-degree_in-eq0.false in omega arith in
    IfOk-implied _ _ c.turn_by.result (λ r each. further_identity c.args.w.now.field c.args.w.now.width c.args.u c.args.chain.now c.args.nonzero.now c.args.sofar c.requires c.in-Some.t.now (sym c.in-Some.ensures) occurs r (made_step c.args.w.now.field c.args.w.now.width c.args.u c.args.chain.now c.args.nonzero.now c.args.sofar c.requires c.in-Some.t.now (sym c.in-Some.ensures) occurs c.in_ok-below-in-Some.below c.in_ok-remainders-in-Some.remainders r c.in_ok-below-in-Some.ensures (c.in_ok-remainders-in-Some.ensures.value ∙ ap (λ (f : Polynomial). ends_of (remainders_of c.args.w.now.field c.args.w.now.width c.args.u true c.in-Some.t.now f c.in_ok-below-in-Some.below)) c.first-f.ensures) each)) c.turn_by.ensures
