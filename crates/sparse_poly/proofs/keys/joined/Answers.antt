-- A pair joins the open one, or closes it and is open next.
use Rattle.std.proofs.Common.{◌≡◌, ◌<◌, ◌≤◌, ◌+◌, ◌%◌, ℕ, List, ◌∷◌, length, map, get_or, sym, ap, ◌∙◌, subst, arith}
use Rattle.std.proofs.lemmas.List.{get_or-map, length-map}
use Rattle.std.proofs.lemmas.List.Elements.{All-tail, All-head}
use Rattle.mono_words.specs.declared.mono.TheConstants.{VARS}
use Rattle.polynomials.specs.Polynomials.{Term, collected}
use Rattle.sparse_poly.specs.declared.keys.Pair.{Pair}
use Rattle.sparse_poly.specs.Keys.{pair_term, reduced_pair, IsPair, ArePairs}
use Rattle.sparse_poly.proofs.Moduli.{positive_modulus}
use Rattle.sparse_poly.proofs.JoinTurns.{turn_same, turn_other_zero, turn_other, end_zero, end_some}
use Rattle.sparse_poly.proofs.KeyTurns.{no_pair, joining_start, one_monomial, other_monomial}
use Rattle.sparse_poly.proofs.keys.joined.Goals as goal
use Rattle.sparse_poly.proofs.keys.joined.Goals.{then-pair-open, else-pair-open, then-sum-ne0+in_ok-push, else-sum-ne0, then-sum-ne0-2+in_ok-push-2, else-sum-ne0-2}

-- those to come are pairs too
later : (sides : List ℕ) (short long : List Term) (pairs : List Pair) (a : Pair) (rest : List Pair) → pairs ≡ a ∷ rest → ArePairs sides short long pairs → ArePairs sides short long rest
later sides short long pairs a rest is are = All-tail (IsPair sides short long) a rest (subst (ArePairs sides short long) is are)

pub loop-pair-init : goal.loop-pair-init
loop-pair-init c = record {
  open_is = All-head (IsPair c.args.sides.now c.args.short.now c.args.long.now) c.in-Some.first.now c.in-Some.rest.now (subst (ArePairs c.args.sides.now c.args.short.now c.args.long.now) c.in-Some.ensures.cases.0 c.requires.pairs);
  joining = joining_start c.args.f VARS c.args.sides.now c.args.short.now c.args.long.now c.requires.factors (positive_modulus c.facts.ensures.least) c.new-out.result.items c.new-out.ensures.items c.in-Some.first.now c.in-Some.rest.now c.args.pairs.now c.in-Some.ensures.cases.0 c.requires.pairs c.requires.falling c.coefficient-sum.result c.coefficient-sum.ensures;
}

-- the pair that is looked at
pub coefficient-c-requires-clause-left : goal.coefficient-c-requires-clause-left
coefficient-c-requires-clause-left c = (later c.args.sides.now c.args.short.now c.args.long.now c.args.pairs.now c.in-Some.first.now c.in-Some.rest.now c.in-Some.ensures.cases.0 c.requires.pairs c.loop-pair.pair-index no_pair c.loop-pair-test.true).left

pub coefficient-c-requires-clause-right : goal.coefficient-c-requires-clause-right
coefficient-c-requires-clause-right c = (later c.args.sides.now c.args.short.now c.args.long.now c.args.pairs.now c.in-Some.first.now c.in-Some.rest.now c.in-Some.ensures.cases.0 c.requires.pairs c.loop-pair.pair-index no_pair c.loop-pair-test.true).right

pub loop-pair-preserved : goal.loop-pair-preserved
loop-pair-preserved c =
    let pair : Pair = get_or c.in-Some.rest.now c.loop-pair.pair-index no_pair in
    let pair_is = (later c.args.sides.now c.args.short.now c.args.long.now c.args.pairs.now c.in-Some.first.now c.in-Some.rest.now c.in-Some.ensures.cases.0 c.requires.pairs c.loop-pair.pair-index no_pair c.loop-pair-test.true) in
    let t : Term = reduced_pair c.args.f c.args.short.now c.args.long.now pair in
    let below : c.loop-pair.pair-index < length (map (reduced_pair c.args.f c.args.short.now c.args.long.now) c.in-Some.rest.now) = (let inside = c.loop-pair-test.true in omega (arith, length-map c.in-Some.rest.now (reduced_pair c.args.f c.args.short.now c.args.long.now))) in
    let at : t ≡ get_or (map (reduced_pair c.args.f c.args.short.now c.args.long.now) c.in-Some.rest.now) c.loop-pair.pair-index t = sym (get_or-map (reduced_pair c.args.f c.args.short.now c.args.long.now) c.in-Some.rest.now c.loop-pair.pair-index no_pair t c.loop-pair-test.true) in
    elim c.if-pair-open.branch [
      | then-pair-open w ↦ rw (w.out-is, w.open-is) (record {
        open_is = c.loop-pair.invariant.open_is;
        joining = turn_same c.args.f VARS (positive_modulus c.facts.ensures.least) (collected c.args.f (map (reduced_pair c.args.f c.args.short.now c.args.long.now) c.args.pairs.now)) c.loop-pair.out.items (pair_term c.args.short.now c.args.long.now c.loop-pair.open).0 c.loop-pair.sum (map (reduced_pair c.args.f c.args.short.now c.args.long.now) c.in-Some.rest.now) c.loop-pair.pair-index t below at c.loop-pair.invariant.joining c.if-pair-open.sum (one_monomial c.args.f VARS c.args.sides.now c.args.short.now c.args.long.now c.requires.factors pair c.loop-pair.open pair_is c.loop-pair.invariant.open_is w.if-pair-open.true) (w.sum-is ∙ w.add-sum.ensures.sum ∙ ap (λ v. (c.loop-pair.sum + v) % c.args.f) c.coefficient-c.ensures);
      })
      | else-pair-open w ↦
          let other = other_monomial c.args.f VARS c.args.sides.now c.args.short.now c.args.long.now c.requires.factors pair c.loop-pair.open pair_is c.loop-pair.invariant.open_is w.if-pair-open.false in
          elim w.if-sum-ne0.branch [
            | then-sum-ne0+in_ok-push v ↦ rw (w.out-is, w.open-is, w.sum-is, c.coefficient-c.ensures, v.out-is, v.in_ok-push.ensures.items, v.monomial.ensures) (record {
              open_is = pair_is;
              joining = turn_other c.args.f VARS (positive_modulus c.facts.ensures.least) (collected c.args.f (map (reduced_pair c.args.f c.args.short.now c.args.long.now) c.args.pairs.now)) c.loop-pair.out.items (pair_term c.args.short.now c.args.long.now c.loop-pair.open).0 c.loop-pair.sum (map (reduced_pair c.args.f c.args.short.now c.args.long.now) c.in-Some.rest.now) c.loop-pair.pair-index t below at c.loop-pair.invariant.joining other v.if-sum-ne0.true;
            })
            | else-sum-ne0 v ↦ rw (w.out-is, w.open-is, w.sum-is, c.coefficient-c.ensures, v.out-is) (record {
              open_is = pair_is;
              joining = turn_other_zero c.args.f VARS (positive_modulus c.facts.ensures.least) (collected c.args.f (map (reduced_pair c.args.f c.args.short.now c.args.long.now) c.args.pairs.now)) c.loop-pair.out.items (pair_term c.args.short.now c.args.long.now c.loop-pair.open).0 c.loop-pair.sum (map (reduced_pair c.args.f c.args.short.now c.args.long.now) c.in-Some.rest.now) c.loop-pair.pair-index t below at c.loop-pair.invariant.joining other v.if-sum-ne0.false;
            })
          ]
    ]

pub returns : goal.returns
returns c =
    let end : length (map (reduced_pair c.args.f c.args.short.now c.args.long.now) c.in-Some.rest.now) ≤ c.loop-pair.pair-index = (let past = c.loop-pair-test.false in omega (arith, length-map c.in-Some.rest.now (reduced_pair c.args.f c.args.short.now c.args.long.now))) in
    elim c.if-sum-ne0-2.branch [
      | then-sum-ne0-2+in_ok-push-2 w ↦ rw (w.out-is, w.in_ok-push-2.ensures.items, w.monomial-then-sum-ne0-2.ensures) (end_some c.args.f VARS (positive_modulus c.facts.ensures.least) (collected c.args.f (map (reduced_pair c.args.f c.args.short.now c.args.long.now) c.args.pairs.now)) c.loop-pair.out.items (pair_term c.args.short.now c.args.long.now c.loop-pair.open).0 c.loop-pair.sum (map (reduced_pair c.args.f c.args.short.now c.args.long.now) c.in-Some.rest.now) c.loop-pair.pair-index end c.loop-pair.invariant.joining w.if-sum-ne0-2.true)
      | else-sum-ne0-2 w ↦ rw w.out-is (end_zero c.args.f VARS (positive_modulus c.facts.ensures.least) (collected c.args.f (map (reduced_pair c.args.f c.args.short.now c.args.long.now) c.args.pairs.now)) c.loop-pair.out.items (pair_term c.args.short.now c.args.long.now c.loop-pair.open).0 c.loop-pair.sum (map (reduced_pair c.args.f c.args.short.now c.args.long.now) c.in-Some.rest.now) c.loop-pair.pair-index end c.loop-pair.invariant.joining w.if-sum-ne0-2.false)
    ]
