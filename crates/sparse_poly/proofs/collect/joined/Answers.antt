-- A term joins the open one, or closes it and is open next.
use Rattle.std.proofs.Common.{sym, ◌∙◌}
use Rattle.mono_words.specs.declared.mono.TheConstants.{VARS}
use Rattle.polynomials.specs.Polynomials.{collected}
use Rattle.polynomials.specs.Equalities.{same_monomial_decides}
use Rattle.sparse_poly.proofs.Moduli.{positive_modulus}
use Rattle.sparse_poly.proofs.JoinTurns.{item_small, turn_same, turn_other_zero, turn_other, end_zero, end_some}
use Rattle.sparse_poly.proofs.collect.joined.Goals as goal
use Rattle.sparse_poly.proofs.collect.joined.Goals.{then-eq, else-eq, then-sum-ne0+in_ok-push, else-sum-ne0, then-sum-ne0-2+in_ok-push-2, else-sum-ne0-2}

pub add-sum-requires-clause-right : goal.add-sum-requires-clause-right
add-sum-requires-clause-right c = item_small c.args.f VARS (positive_modulus c.facts.ensures.least) (collected c.args.f c.args.sorted.now) c.loop-t.out.items c.loop-t.monomial c.loop-t.sum c.in-Some.rest.now c.loop-t.t-index c.t-item.result c.loop-t-test.true c.t-item.is c.loop-t.invariant

pub loop-t-preserved : goal.loop-t-preserved
loop-t-preserved c = elim c.if-eq.branch [
  | then-eq w ↦ rw (w.out-is, w.monomial-is) (turn_same c.args.f VARS (positive_modulus c.facts.ensures.least) (collected c.args.f c.args.sorted.now) c.loop-t.out.items c.loop-t.monomial c.loop-t.sum c.in-Some.rest.now c.loop-t.t-index c.t-item.result c.loop-t-test.true c.t-item.is c.loop-t.invariant c.if-eq.sum ((same_monomial_decides c.t-item.result.0 c.loop-t.monomial).0 (sym w.if-eq.ensures)) (w.sum-is ∙ w.add-sum.ensures.sum))
  | else-eq w ↦ elim w.if-sum-ne0.branch [
    | then-sum-ne0+in_ok-push v ↦ rw (w.out-is, w.monomial-is, w.sum-is, v.out-is, v.in_ok-push.ensures.items) (turn_other c.args.f VARS (positive_modulus c.facts.ensures.least) (collected c.args.f c.args.sorted.now) c.loop-t.out.items c.loop-t.monomial c.loop-t.sum c.in-Some.rest.now c.loop-t.t-index c.t-item.result c.loop-t-test.true c.t-item.is c.loop-t.invariant (λ e. let same = (same_monomial_decides c.t-item.result.0 c.loop-t.monomial).1 e in let other = w.if-eq.ensures in cc) v.if-sum-ne0.true)
    | else-sum-ne0 v ↦ rw (w.out-is, w.monomial-is, w.sum-is, v.out-is) (turn_other_zero c.args.f VARS (positive_modulus c.facts.ensures.least) (collected c.args.f c.args.sorted.now) c.loop-t.out.items c.loop-t.monomial c.loop-t.sum c.in-Some.rest.now c.loop-t.t-index c.t-item.result c.loop-t-test.true c.t-item.is c.loop-t.invariant (λ e. let same = (same_monomial_decides c.t-item.result.0 c.loop-t.monomial).1 e in let other = w.if-eq.ensures in cc) v.if-sum-ne0.false)
  ]
]

pub returns : goal.returns
returns c = elim c.if-sum-ne0-2.branch [
  | then-sum-ne0-2+in_ok-push-2 w ↦ rw (w.out-is, w.in_ok-push-2.ensures.items) (end_some c.args.f VARS (positive_modulus c.facts.ensures.least) (collected c.args.f c.args.sorted.now) c.loop-t.out.items c.loop-t.monomial c.loop-t.sum c.in-Some.rest.now c.loop-t.t-index c.loop-t-test.false c.loop-t.invariant w.if-sum-ne0-2.true)
  | else-sum-ne0-2 w ↦ rw w.out-is (end_zero c.args.f VARS (positive_modulus c.facts.ensures.least) (collected c.args.f c.args.sorted.now) c.loop-t.out.items c.loop-t.monomial c.loop-t.sum c.in-Some.rest.now c.loop-t.t-index c.loop-t-test.false c.loop-t.invariant w.if-sum-ne0-2.false)
]
