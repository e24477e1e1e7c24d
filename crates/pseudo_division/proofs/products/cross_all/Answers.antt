-- Each turn makes one more entry, or finds that one isn't there.
use Rattle.std.proofs.Common.{◌≡◌, ◌+◌, ◌++◌, [], ◌∷◌, length, drop, List, Some, None, sym, subst, ap, ◌∙◌, length-append, arith}
use Rattle.mono_words.specs.declared.mono.TheConstants.{VARS}
use Rattle.polynomials.specs.Polynomials.{Polynomial}
use Rattle.polynomials.proofs.PolynomialLists.{IsPolynomial-at}
use Rattle.division_rules.specs.Within.{cross_within, cross_all_within}
use Rattle.pseudo_division.specs.FieldOperations.{operations}
use Rattle.pseudo_division.proofs.Lists.{IsMade}
use Rattle.pseudo_division.proofs.Entries.{cross_all_more, cross_all_none}
use Rattle.pseudo_division.proofs.products.cross_all.Goals as goal

pub cross-requires-clause-left : goal.cross-requires-clause-left
cross-requires-clause-left c = IsPolynomial-at c.args.w.now.field VARS c.args.left.now c.loop-i.i c.at-a.result.now c.requires.left c.at-a.ensures

pub cross-requires-clause-right : goal.cross-requires-clause-right
cross-requires-clause-right c = IsPolynomial-at c.args.w.now.field VARS c.args.right.now c.loop-i.i c.at-b.result.now c.requires.right c.at-b.ensures

pub returns-in-None-clause-value : goal.returns-in-None-clause-value
returns-in-None-clause-value c =
    let none : cross_within (operations c.args.w.now.field) c.args.w.now.width c.args.l.now c.args.m.now c.at-a.result.now c.at-b.result.now ≡ None = let e = c.in_ok-cross.ensures.value in let i = c.in-None.is in cc in
    sym (cross_all_none (operations c.args.w.now.field) c.args.w.now.width c.args.l.now c.args.left.now c.loop-i.i c.at-a.result.now c.at-a.ensures c.loop-i.entries c.args.m.now c.args.right.now c.at-b.result.now c.at-b.ensures none c.loop-i.invariant.0)

pub loop-i-preserved : goal.loop-i-preserved
loop-i-preserved c =
    let some : cross_within (operations c.args.w.now.field) c.args.w.now.width c.args.l.now c.args.m.now c.at-a.result.now c.at-b.result.now ≡ Some c.in-Some.entry = let e = c.in_ok-cross.ensures.value in let i = c.in-Some.is in cc in
    let whole : c.push.new.self ≡ c.loop-i.entries ++ c.in-Some.entry ∷ [] = c.in_ok-push-in-Some.ensures.ok in (
      subst (λ (xs : List Polynomial). IsMade (cross_all_within (operations c.args.w.now.field) c.args.w.now.width c.args.l.now c.args.m.now c.args.left.now c.args.right.now) xs (cross_all_within (operations c.args.w.now.field) c.args.w.now.width c.args.l.now c.args.m.now (drop (c.loop-i.i + 1) c.args.left.now) (drop (c.loop-i.i + 1) c.args.right.now))) (sym whole)
          (cross_all_more (operations c.args.w.now.field) c.args.w.now.width c.args.l.now c.args.left.now c.loop-i.i c.at-a.result.now c.at-a.ensures c.loop-i.entries c.args.m.now c.args.right.now c.at-b.result.now c.at-b.ensures c.in-Some.entry some c.loop-i.invariant.0),
      (let lengths = ap length whole ∙ length-append c.loop-i.entries (c.in-Some.entry ∷ []) in let before = c.loop-i.invariant.1 in omega arith),
    )
