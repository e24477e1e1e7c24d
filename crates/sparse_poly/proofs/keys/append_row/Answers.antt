-- Each product has its place.
use Rattle.std.proofs.Common.{◌<◌, ◌+◌, ◌++◌, length, map, get_or, refl, arith}
use Rattle.std.proofs.lemmas.List.Elements.{All-push}
use Rattle.mono_words.specs.declared.mono.TheConstants.{VARS}
use Rattle.polynomials.specs.Polynomials.{term_product}
use Rattle.sparse_poly.specs.declared.keys.Pair.{Pair}
use Rattle.sparse_poly.specs.Keys.{term_at, pair_term, IsPair}
use Rattle.sparse_poly.proofs.KeyTurns.{places_count, places_room, row_pair, row_turn}
use Rattle.sparse_poly.proofs.keys.append_row.Goals as goal

pub overflow_add-start : goal.overflow_add-start
overflow_add-start c =
    let count = places_count c.args.f VARS c.args.sides.now c.args.short.now c.args.long.now c.requires.factors c.args.places.now c.requires.places in
    let column : c.loop-j.j < length c.args.long.now = (let below = c.loop-j-test.true in omega arith) in
    let room = places_room c.args.f VARS c.args.sides.now c.args.short.now c.args.long.now c.requires.factors c.args.places.now c.requires.places c.args.i c.loop-j.j c.args.start c.requires.row column c.requires.start in
    omega (arith, c.requires.factors.size)

pub loop-j-preserved : goal.loop-j-preserved
loop-j-preserved c =
    let count = places_count c.args.f VARS c.args.sides.now c.args.short.now c.args.long.now c.requires.factors c.args.places.now c.requires.places in
    let column : c.loop-j.j < length c.args.long.now = (let below = c.loop-j-test.true in omega arith) in
    let pair : Pair = record { place = c.args.start + (get_or c.args.places.now c.loop-j.j (0, 0)).0; left = c.args.i; right = c.loop-j.j } in
    rw c.in_ok-push.ensures.items (record {
      pairs = All-push (IsPair c.args.sides.now c.args.short.now c.args.long.now) c.loop-j.pairs.items pair c.loop-j.invariant.pairs
          (row_pair c.args.f VARS c.args.sides.now c.args.short.now c.args.long.now c.requires.factors c.args.places.now c.requires.places c.args.i c.loop-j.j c.args.start c.requires.row column c.requires.start);
      terms = row_turn c.args.short.now c.args.long.now (term_at c.args.short.now c.args.i) c.loop-j.j c.loop-j.pairs.items pair
          (map (pair_term c.args.short.now c.args.long.now) c.args.pairs.now.items ++ map (term_product (term_at c.args.short.now c.args.i)) c.args.long.now)
          column refl c.loop-j.invariant.terms;
    })
