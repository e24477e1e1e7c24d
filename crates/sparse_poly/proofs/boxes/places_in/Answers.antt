-- The monomial of each term is in the box.
use Rattle.std.proofs.Common.{arith}
use Rattle.sparse_poly.proofs.BoxTurns.{exponent_at_most}
use Rattle.sparse_poly.proofs.boxes.places_in.Goals as goal

pub place-requires-clause-inside : goal.place-requires-clause-inside
place-requires-clause-inside c = λ v.
    let most = exponent_at_most v c.loop-u.u-index c.args.terms.now c.u-item.result c.loop-u-test.true c.u-item.is in
    let inside = c.requires.inside v in
    omega arith
