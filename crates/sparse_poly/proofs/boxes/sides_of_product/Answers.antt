-- Each side is greater than the degree of the product.
use Rattle.std.proofs.Common.{◌≡◌, ◌<◌, ◌+◌, ◌-◌, ◌*◌, ◌^◌, ℕ, min, [], ◌∷◌, sym, ap, ◌∙◌, arith}
use Rattle.std.proofs.lemmas.List.{length-append}
use Rattle.polynomials.specs.Monomials.{exponent_of}
use Rattle.polynomials.proofs.FitsLemmas.{exponent_of-greater}
use Rattle.sparse_poly.proofs.BoxTurns.{box_size-push, inside_push, inside_below, narrow_push}
use Rattle.sparse_poly.proofs.boxes.sides_of_product.Goals as goal

-- what is below the bound isn't cut
below_cut : (x most r : ℕ) → r ≡ min x most → r < most → r ≡ x
below_cut x most r is below = omega arith

pub loop-v-preserved : goal.loop-v-preserved
loop-v-preserved c =
    let first = c.exponent.ensures in
    let second = c.exponent-in-loop-v.ensures in
    let side = c.exponent.result + c.exponent-in-loop-v.result + 1 in
    let whole : c.saturating_mul-size.result ≡ c.loop-v.size * side = below_cut (c.loop-v.size * side) (2 ^ 64 - 1) c.saturating_mul-size.result c.saturating_mul-size.ensures (let small = c.if-size-gt-MOST_MONOMIALS.false in omega arith) in
    rw c.in_ok-push.ensures.items (record {
      variables = omega (arith, length-append c.loop-v.sides.items (side ∷ []), c.loop-v.invariant.variables);
      size = box_size-push c.loop-v.sides.items side ∙ ap (λ k. k * side) c.loop-v.invariant.size ∙ sym whole;
      small = c.if-size-gt-MOST_MONOMIALS.false;
      inside = inside_push c.loop-v.sides.items c.loop-v.v side (λ w. exponent_of w c.args.a + exponent_of w c.args.b) c.loop-v.invariant.variables (omega arith) c.loop-v.invariant.inside;
      narrow = narrow_push c.loop-v.sides.items side (2 ^ 16) (omega arith) c.if-side-gt-MOST_VALUES.false c.loop-v.invariant.narrow;
    })

pub returns-clause-inside : goal.returns-clause-inside
returns-clause-inside c =
    let past = c.loop-v-test.false in
    let most = c.loop-v.auto.v-end in
    inside_below c.loop-v.sides.items c.loop-v.v (λ w. exponent_of w c.args.a + exponent_of w c.args.b) c.loop-v.invariant.variables c.loop-v.invariant.inside
    (λ w above.
    let free = c.variables_of-v-end.ensures.free w (omega arith) in
    let both = ap (exponent_of w) c.max_exponents.ensures ∙ exponent_of-greater w c.args.a c.args.b in
    omega arith)
