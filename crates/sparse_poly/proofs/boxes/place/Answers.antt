-- One variable lower.
use Rattle.std.proofs.Common.{◌-◌, arith}
use Rattle.sparse_poly.proofs.BoxTurns.{place_turn, place_room}
use Rattle.sparse_poly.proofs.boxes.place.Goals as goal

pub overflow_mul-place : goal.overflow_mul-place
overflow_mul-place c =
    let length_m = c.shape.ensures.variables in
    let inside = c.loop-v.invariant.inside in
    let variables = c.requires.variables in
    let next = place_turn c.loop-v.v (c.loop-v.v - 1) c.args.sides.now c.args.m c.loop-v.place (let some = c.loop-v-test.true in omega arith) (let some = c.loop-v-test.true in omega arith) (let some = c.loop-v-test.true in omega arith) c.loop-v.invariant.place in
    let room = place_room (c.loop-v.v - 1) c.args.sides.now c.args.m c.requires.inside in
    omega (arith, c.requires.size)

pub overflow_add-place : goal.overflow_add-place
overflow_add-place c =
    let length_m = c.shape.ensures.variables in
    let inside = c.loop-v.invariant.inside in
    let variables = c.requires.variables in
    let next = place_turn c.loop-v.v (c.loop-v.v - 1) c.args.sides.now c.args.m c.loop-v.place (let some = c.loop-v-test.true in omega arith) (let some = c.loop-v-test.true in omega arith) (let some = c.loop-v-test.true in omega arith) c.loop-v.invariant.place in
    let room = place_room (c.loop-v.v - 1) c.args.sides.now c.args.m c.requires.inside in
    omega (arith, c.requires.size, c.exponent.ensures)

pub loop-v-preserved : goal.loop-v-preserved
loop-v-preserved c =
    let length_m = c.shape.ensures.variables in
    let inside = c.loop-v.invariant.inside in
    let variables = c.requires.variables in
    let some = c.loop-v-test.true in
    record {
      inside = omega arith;
      place = rw c.exponent.ensures (place_turn c.loop-v.v (c.loop-v.v - 1) c.args.sides.now c.args.m c.loop-v.place (omega arith) (omega arith) (omega arith) c.loop-v.invariant.place);
    }
