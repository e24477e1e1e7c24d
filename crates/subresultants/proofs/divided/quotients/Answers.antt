-- Each turn makes one more quotient, or finds that there is none.
use Rattle.std.proofs.Common.{◌≡◌, ◌+◌, [], ◌∷◌, ◌++◌, drop, List, Some, None, sym, subst}
use Rattle.mono_words.specs.declared.mono.TheConstants.{VARS}
use Rattle.polynomials.specs.Polynomials.{Polynomial}
use Rattle.division_rules.specs.Quotients.{quotient_within}
use Rattle.division_rules.specs.RemainderRows.{quotients}
use Rattle.pseudo_division.specs.FieldOperations.{operations}
use Rattle.pseudo_division.proofs.Lists.{IsMade, IsPolynomial-at}
use Rattle.subresultants.proofs.Quotients.{quotients_more, quotients_none}
use Rattle.subresultants.proofs.divided.quotients.Goals as goal

pub quo-requires-clause-left : goal.quo-requires-clause-left
quo-requires-clause-left c = IsPolynomial-at c.args.w.now.field VARS c.args.list.now c.loop-i.i c.at-a.result.now c.requires.over c.at-a.ensures

pub returns-in-None : goal.returns-in-None
returns-in-None c =
    let none : quotient_within c.args.w.now.field c.args.w.now.width c.at-a.result.now c.args.b.now ≡ None = let e = c.in_ok-quo.ensures.value in let i = c.in-None.is in cc in
    sym (quotients_none (operations c.args.w.now.field) c.args.w.now.width c.args.b.now c.args.list.now c.loop-i.i c.at-a.result.now c.at-a.ensures c.loop-i.entries none c.loop-i.invariant)

pub loop-i-preserved : goal.loop-i-preserved
loop-i-preserved c =
    let some : quotient_within c.args.w.now.field c.args.w.now.width c.at-a.result.now c.args.b.now ≡ Some c.in-Some.entry = let e = c.in_ok-quo.ensures.value in let i = c.in-Some.is in cc in
    let whole : c.push.new.self ≡ c.loop-i.entries ++ c.in-Some.entry ∷ [] = c.in_ok-push-in-Some.ensures.ok in
    subst (λ (xs : List Polynomial). IsMade (quotients (operations c.args.w.now.field) c.args.w.now.width c.args.b.now c.args.list.now) xs (quotients (operations c.args.w.now.field) c.args.w.now.width c.args.b.now (drop (c.loop-i.i + 1) c.args.list.now))) (sym whole)
    (quotients_more (operations c.args.w.now.field) c.args.w.now.width c.args.b.now c.args.list.now c.loop-i.i c.at-a.result.now c.at-a.ensures c.loop-i.entries c.in-Some.entry some c.loop-i.invariant)
