-- Each item of a polynomial is its first from there on.
use Rattle.mono_words.specs.declared.mono.TheConstants.{VARS}
use Rattle.sparse_poly.proofs.Places.{IsPolynomial-item}
use Rattle.sparse_poly.proofs.MergeTurns.{append_turn}
use Rattle.sparse_poly.proofs.merge.append_signed.Goals as goal

pub of-requires : goal.of-requires
of-requires c = (IsPolynomial-item c.args.f VARS c.loop-t.t-index c.args.rest.now c.t-item.result c.requires c.loop-t-test.true c.t-item.is).2

pub loop-t-preserved : goal.loop-t-preserved
loop-t-preserved c = rw (c.in_ok-push.ensures.items, c.of.ensures.value) (append_turn c.args.f VARS c.args.sign c.loop-t.out.items c.args.rest.now _ c.loop-t.t-index c.t-item.result c.requires c.loop-t-test.true c.t-item.is c.loop-t.invariant)
