-- Each item of a polynomial is its first from there on.
use Rattle.mono_words.specs.declared.mono.TheConstants.{VARS}
use Rattle.sparse_poly.proofs.Places.{IsPolynomial-item}
use Rattle.system_parser.proofs.SignedTerms.{signed_turn}
use Rattle.system_parser.proofs.frames.append_signed.Goals as goal

pub signed-requires : goal.signed-requires
signed-requires c = (IsPolynomial-item c.args.f VARS c.loop-t.t-index c.args.terms.now c.t-item.result c.requires c.loop-t-test.true c.t-item.is).2

pub loop-t-preserved : goal.loop-t-preserved
loop-t-preserved c = rw (c.in_ok-push.ensures.items, c.signed.ensures) (signed_turn c.args.f c.args.is_negative c.loop-t.out.items c.args.terms.now _ c.loop-t.t-index c.t-item.result c.loop-t-test.true c.t-item.is c.loop-t.invariant)
