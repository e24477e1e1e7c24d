-- Each turn makes one more entry, or finds that one isn't there.
use Rattle.std.proofs.Common.{◌≡◌, ◌+◌, ◌++◌, [], ◌∷◌, length, drop, List, Option, Some, None, IfSome, sym, subst, ap, ◌∙◌, length-append, arith}
use Rattle.mono_words.specs.declared.mono.TheConstants.{VARS}
use Rattle.polynomials.specs.Polynomials.{Polynomial, IsPolynomial, ArePolynomials}
use Rattle.polynomials.proofs.PolynomialLists.{IsPolynomial-at, ArePolynomials-append}
use Rattle.division_rules.specs.Within.{times_within, times_all_within}
use Rattle.pseudo_division.specs.FieldOperations.{operations}
use Rattle.pseudo_division.proofs.Lists.{IsMade}
use Rattle.pseudo_division.proofs.Entries.{times_all_more, times_all_none}
use Rattle.pseudo_division.proofs.products.times_all.Goals as goal

pub times-requires-clause-right : goal.times-requires-clause-right
times-requires-clause-right c = IsPolynomial-at c.args.w.now.field VARS c.args.list.now c.loop-i.i c.at-a.result.now c.requires.over c.at-a.ensures

pub returns-in-None-clause-value : goal.returns-in-None-clause-value
returns-in-None-clause-value c =
    let none : times_within (operations c.args.w.now.field) c.args.w.now.width c.args.l.now c.at-a.result.now ≡ None = let e = c.in_ok-times.ensures.value in let i = c.in-None.is in cc in
    sym (times_all_none (operations c.args.w.now.field) c.args.w.now.width c.args.l.now c.args.list.now c.loop-i.i c.at-a.result.now c.at-a.ensures c.loop-i.entries none c.loop-i.invariant.0)

pub loop-i-preserved : goal.loop-i-preserved
loop-i-preserved c =
    let some : times_within (operations c.args.w.now.field) c.args.w.now.width c.args.l.now c.at-a.result.now ≡ Some c.in-Some.entry = let e = c.in_ok-times.ensures.value in let i = c.in-Some.is in cc in
    let whole : c.push.new.self ≡ c.loop-i.entries ++ c.in-Some.entry ∷ [] = c.in_ok-push-in-Some.ensures.ok in (
      subst (λ (xs : List Polynomial). IsMade (times_all_within (operations c.args.w.now.field) c.args.w.now.width c.args.l.now c.args.list.now) xs (times_all_within (operations c.args.w.now.field) c.args.w.now.width c.args.l.now (drop (c.loop-i.i + 1) c.args.list.now))) (sym whole)
          (times_all_more (operations c.args.w.now.field) c.args.w.now.width c.args.l.now c.args.list.now c.loop-i.i c.at-a.result.now c.at-a.ensures c.loop-i.entries c.in-Some.entry some c.loop-i.invariant.0),
      (let lengths = ap length whole ∙ length-append c.loop-i.entries (c.in-Some.entry ∷ []) in let before = c.loop-i.invariant.1 in omega arith),
      subst (ArePolynomials c.args.w.now.field VARS) (sym whole) (ArePolynomials-append c.args.w.now.field VARS c.loop-i.entries (c.in-Some.entry ∷ []) c.loop-i.invariant.2 (subst (λ (o : Option Polynomial). IfSome o (IsPolynomial c.args.w.now.field VARS)) c.in-Some.is c.in_ok-times.ensures.over, tt)),
    )
