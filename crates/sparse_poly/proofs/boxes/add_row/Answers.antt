-- Each product is added to its sum.
use Rattle.std.proofs.Common.{◌≡◌, ◌<◌, ◌++◌, ℕ, List, map, length, refl, ap, ◌∙◌, arith}
use Rattle.std.proofs.lemmas.List.{length-map}
use Rattle.mono_words.specs.declared.mono.TheConstants.{VARS}
use Rattle.polynomials.specs.Polynomials.{Term, term_product}
use Rattle.sparse_poly.specs.Boxes.{boxed, placed}
use Rattle.sparse_poly.proofs.BoxRows.{term_inside, place_in_sums, sum_room, added_turn, added_start, added_bounds, added_sums}
use Rattle.sparse_poly.proofs.boxes.add_row.Goals as goal

-- a place for each term
count : (sides : List ℕ) (long : List Term) (places : List (ℕ × ℕ)) → places ≡ map (placed sides) long → length places ≡ length long
count sides long places are = ap length are ∙ length-map long (placed sides)

column : (sides : List ℕ) (long : List Term) (places : List (ℕ × ℕ)) → places ≡ map (placed sides) long → (j : ℕ) → j < length places → j < length long
column sides long places are j below = omega (arith, count sides long places are)

pub place-start-requires-clause-inside : goal.place-start-requires-clause-inside
place-start-requires-clause-inside c =
    term_inside c.args.f VARS c.facts.ensures.most c.args.sides.now c.args.short.now c.args.long.now c.requires.factors c.args.i c.requires.row c.args.t c.requires.term _ refl c.args.places.now c.requires.places

pub loop-j-init : goal.loop-j-init
loop-j-init c = added_start c.args.f VARS c.args.sides.now c.args.long.now c.args.i c.args.t c.args.sums.now c.requires.sums

pub overflow_add-k : goal.overflow_add-k
overflow_add-k c =
    let within = place_in_sums c.args.f VARS c.facts.ensures.most c.args.sides.now c.args.short.now c.args.long.now c.requires.factors c.args.i c.requires.row c.args.t c.requires.term c.place-start.result c.place-start.ensures c.args.places.now c.requires.places (boxed VARS c.args.sides.now 0 c.args.sums.now ++ map (term_product c.args.t) c.args.long.now) c.loop-j.j c.loop-j.sums (column c.args.sides.now c.args.long.now c.args.places.now c.requires.places c.loop-j.j c.loop-j-test.true) c.loop-j.invariant in
    let held = c.loop-j.invariant.sums.count in
    omega (arith, c.requires.size)

pub offset_bounds-sums-k : goal.offset_bounds-sums-k
offset_bounds-sums-k c =
    let within = place_in_sums c.args.f VARS c.facts.ensures.most c.args.sides.now c.args.short.now c.args.long.now c.requires.factors c.args.i c.requires.row c.args.t c.requires.term c.place-start.result c.place-start.ensures c.args.places.now c.requires.places (boxed VARS c.args.sides.now 0 c.args.sums.now ++ map (term_product c.args.t) c.args.long.now) c.loop-j.j c.loop-j.sums (column c.args.sides.now c.args.long.now c.args.places.now c.requires.places c.loop-j.j c.loop-j-test.true) c.loop-j.invariant in
    let held = c.loop-j.invariant.sums.count in
    omega (arith, c.requires.size)

pub offset_bounds-sums-k-in-loop-j : goal.offset_bounds-sums-k-in-loop-j
offset_bounds-sums-k-in-loop-j c =
    let within = place_in_sums c.args.f VARS c.facts.ensures.most c.args.sides.now c.args.short.now c.args.long.now c.requires.factors c.args.i c.requires.row c.args.t c.requires.term c.place-start.result c.place-start.ensures c.args.places.now c.requires.places (boxed VARS c.args.sides.now 0 c.args.sums.now ++ map (term_product c.args.t) c.args.long.now) c.loop-j.j c.loop-j.sums (column c.args.sides.now c.args.long.now c.args.places.now c.requires.places c.loop-j.j c.loop-j-test.true) c.loop-j.invariant in
    let held = c.loop-j.invariant.sums.count in
    omega (arith, c.requires.size)

pub bounds-sums-k : goal.bounds-sums-k
bounds-sums-k c = place_in_sums c.args.f VARS c.facts.ensures.most c.args.sides.now c.args.short.now c.args.long.now c.requires.factors c.args.i c.requires.row c.args.t c.requires.term c.place-start.result c.place-start.ensures c.args.places.now c.requires.places (boxed VARS c.args.sides.now 0 c.args.sums.now ++ map (term_product c.args.t) c.args.long.now) c.loop-j.j c.loop-j.sums (column c.args.sides.now c.args.long.now c.args.places.now c.requires.places c.loop-j.j c.loop-j-test.true) c.loop-j.invariant

pub bounds-sums-k-in-loop-j : goal.bounds-sums-k-in-loop-j
bounds-sums-k-in-loop-j c = place_in_sums c.args.f VARS c.facts.ensures.most c.args.sides.now c.args.short.now c.args.long.now c.requires.factors c.args.i c.requires.row c.args.t c.requires.term c.place-start.result c.place-start.ensures c.args.places.now c.requires.places (boxed VARS c.args.sides.now 0 c.args.sums.now ++ map (term_product c.args.t) c.args.long.now) c.loop-j.j c.loop-j.sums (column c.args.sides.now c.args.long.now c.args.places.now c.requires.places c.loop-j.j c.loop-j-test.true) c.loop-j.invariant

pub overflow_add-sums : goal.overflow_add-sums
overflow_add-sums c =
    let room = sum_room c.args.f VARS c.facts.ensures.most c.args.sides.now c.args.short.now c.args.long.now c.requires.factors c.args.i c.requires.row c.args.t c.requires.term c.place-start.result c.place-start.ensures c.args.places.now c.requires.places (boxed VARS c.args.sides.now 0 c.args.sums.now ++ map (term_product c.args.t) c.args.long.now) c.loop-j.j c.loop-j.sums (column c.args.sides.now c.args.long.now c.args.places.now c.requires.places c.loop-j.j c.loop-j-test.true) c.loop-j.invariant in
    omega arith

pub loop-j-preserved : goal.loop-j-preserved
loop-j-preserved c = added_turn c.args.f VARS c.facts.ensures.most c.args.sides.now c.args.short.now c.args.long.now c.requires.factors c.args.i c.requires.row c.args.t c.requires.term c.place-start.result c.place-start.ensures c.args.places.now c.requires.places (boxed VARS c.args.sides.now 0 c.args.sums.now ++ map (term_product c.args.t) c.args.long.now) c.loop-j.j c.loop-j.sums (column c.args.sides.now c.args.long.now c.args.places.now c.requires.places c.loop-j.j c.loop-j-test.true) c.loop-j.invariant

pub returns : goal.returns
returns c =
    let end = count c.args.sides.now c.args.long.now c.args.places.now c.requires.places in
    let past = c.loop-j-test.false in
    let most = c.loop-j.auto.j-end in
    record {
      bounds = added_bounds c.args.f VARS c.args.sides.now c.args.long.now c.args.i c.args.t (boxed VARS c.args.sides.now 0 c.args.sums.now ++ map (term_product c.args.t) c.args.long.now) c.loop-j.j c.loop-j.sums (omega arith) c.loop-j.invariant;
      sums = added_sums c.args.f VARS c.args.sides.now c.args.long.now c.args.i c.args.t (boxed VARS c.args.sides.now 0 c.args.sums.now ++ map (term_product c.args.t) c.args.long.now) c.loop-j.j c.loop-j.sums (omega arith) c.loop-j.invariant;
    }
