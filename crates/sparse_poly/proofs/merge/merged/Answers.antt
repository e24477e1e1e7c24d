-- Each turn of the merge takes the greater first term, or both where they are of one monomial.
use Rattle.std.proofs.Common.{arith, ◌+◌, ◌%◌, sym, ap, ◌∙◌, inl, inr, subst}
use Rattle.mono_words.specs.declared.mono.TheConstants.{VARS}
use Rattle.sparse_poly.proofs.Moduli.{positive_modulus}
use Rattle.sparse_poly.proofs.Places.{IsPolynomial-item, IsPolynomial-drop, take_rest}
use Rattle.sparse_poly.proofs.MergeTurns.{turn_greater, turn_less, turn_equal, turn_equal_zero, end_of_merge, IsPolynomial-signed}
use Rattle.polynomials.specs.Polynomials.{IsPolynomial}
use Rattle.polynomials.proofs.Canonical.{IsPolynomial-sum_of}
use Rattle.sparse_poly.specs.Signs.{signed}
use Rattle.sparse_poly.proofs.merge.merged.Goals as goal
use Rattle.sparse_poly.proofs.merge.merged.Goals.{then-c-ne0+in_ok-push-in-Equal, else-c-ne0, then-loop-i-test+else-j-b, else-loop-i-test}

pub of-requires : goal.of-requires
of-requires c = (IsPolynomial-item c.args.f VARS c.loop-i.j c.args.b.now c.index-b-j.result c.requires.right c.if-j-b.true c.index-b-j.is).2

pub of-requires-in-Equal : goal.of-requires-in-Equal
of-requires-in-Equal c = (IsPolynomial-item c.args.f VARS c.loop-i.j c.args.b.now c.index-b-j.result c.requires.right c.if-j-b.true c.index-b-j.is).2

pub add-c-requires-clause-left : goal.add-c-requires-clause-left
add-c-requires-clause-left c = (IsPolynomial-item c.args.f VARS c.loop-i.i c.args.a.now c.index-a-i.result c.requires.left c.loop-i-test.true c.index-a-i.is).2

pub loop-i-preserved-in-Greater : goal.loop-i-preserved-in-Greater
loop-i-preserved-in-Greater c = (
  omega arith,
  c.loop-i.invariant.1,
  rw c.in_ok-push-in-Greater.ensures.items (turn_greater c.args.f VARS (positive_modulus c.facts.ensures.least) c.args.sign c.loop-i.out.items c.args.a.now c.args.b.now _ c.loop-i.i c.loop-i.j c.index-a-i.result c.index-b-j.result c.requires.left c.requires.right c.loop-i-test.true c.if-j-b.true c.index-a-i.is c.index-b-j.is (sym c.in-Greater.ensures) c.loop-i.invariant.2),
)

pub loop-i-preserved-in-Less : goal.loop-i-preserved-in-Less
loop-i-preserved-in-Less c = (
  c.loop-i.invariant.0,
  omega arith,
  rw (c.in_ok-push-in-Less.ensures.items, c.of.ensures.value) (turn_less c.args.f VARS (positive_modulus c.facts.ensures.least) c.args.sign c.loop-i.out.items c.args.a.now c.args.b.now _ c.loop-i.i c.loop-i.j c.index-a-i.result c.index-b-j.result c.requires.left c.requires.right c.loop-i-test.true c.if-j-b.true c.index-a-i.is c.index-b-j.is (sym c.in-Less.ensures) c.loop-i.invariant.2),
)

pub loop-i-preserved : goal.loop-i-preserved
loop-i-preserved c = (
  omega arith,
  omega arith,
  elim c.if-c-ne0.branch [
    | then-c-ne0+in_ok-push-in-Equal w ↦ rw (w.out-is, w.in_ok-push-in-Equal.ensures.items) (turn_equal c.args.f VARS (positive_modulus c.facts.ensures.least) c.args.sign c.loop-i.out.items c.args.a.now c.args.b.now _ c.loop-i.i c.loop-i.j c.index-a-i.result c.index-b-j.result c.requires.left c.requires.right c.loop-i-test.true c.if-j-b.true c.index-a-i.is c.index-b-j.is c.add-c.result (sym c.in-Equal.ensures) (c.add-c.ensures.sum ∙ ap (λ v. (c.index-a-i.result.1 + v) % c.args.f) c.of-in-Equal.ensures.value) w.if-c-ne0.true c.loop-i.invariant.2)
    | else-c-ne0 w ↦ rw w.out-is (turn_equal_zero c.args.f VARS (positive_modulus c.facts.ensures.least) c.args.sign c.loop-i.out.items c.args.a.now c.args.b.now _ c.loop-i.i c.loop-i.j c.index-a-i.result c.index-b-j.result c.requires.left c.requires.right c.loop-i-test.true c.if-j-b.true c.index-a-i.is c.index-b-j.is (sym c.in-Equal.ensures) (sym (c.add-c.ensures.sum ∙ ap (λ v. (c.index-a-i.result.1 + v) % c.args.f) c.of-in-Equal.ensures.value) ∙ w.if-c-ne0.false) c.loop-i.invariant.2)
  ],
)

pub append_signed-requires : goal.append_signed-requires
append_signed-requires c = rw (take_rest c.args.b.now c.loop-i.j) (IsPolynomial-drop c.args.f VARS c.loop-i.j c.args.b.now c.requires.right)

pub returns-clause-value : goal.returns-clause-value
returns-clause-value c =
    rw (c.in_ok-append_signed.ensures, c.in_ok-extend_from_slice.ensures.items, take_rest c.args.a.now c.loop-i.i, take_rest c.args.b.now c.loop-i.j)
    (end_of_merge c.args.f VARS (positive_modulus c.facts.ensures.least) c.args.sign c.loop-i.out.items c.args.a.now c.args.b.now _ c.loop-i.i c.loop-i.j c.requires.left c.requires.right
    (elim c.loop-i-test.branch [ then-loop-i-test+else-j-b w ↦ inr w.if-j-b.false | else-loop-i-test w ↦ inl w.loop-i-test.false ])
    c.loop-i.invariant.2)

pub returns-clause-over : goal.returns-clause-over
returns-clause-over c =
    subst (IsPolynomial c.args.f VARS) (sym (returns-clause-value c))
    (IsPolynomial-sum_of c.args.f VARS (positive_modulus c.facts.ensures.least) c.args.a.now (signed c.args.f c.args.sign c.args.b.now) c.requires.left (IsPolynomial-signed c.args.f VARS c.args.sign c.args.b.now c.requires.right))
