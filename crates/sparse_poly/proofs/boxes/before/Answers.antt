-- One exponent goes down, or the next is looked at.
use Rattle.std.proofs.Common.{◌≡◌, ◌+◌, ◌-◌, ◌<◌, ℕ, suc, List, length, get_or, sym, ap, ◌∙◌, inl, inr, arith}
use Rattle.std.proofs.lemmas.List.{get_or_default}
use Rattle.std.proofs.lemmas.Bool.{cases_eq}
use Rattle.mono_words.specs.declared.mono.TheConstants.{VARS}
use Rattle.polynomials.specs.Monomials.{exponent_of, monomial_product}
use Rattle.polynomials.specs.MonomialOrders.{monomial_product_comm, monomial_product_cancel}
use Rattle.polynomials.proofs.Exponents.{power_monomial, exponent_of-power_monomial, exponent_of-power_monomial_other}
use Rattle.sparse_poly.specs.Boxes.{monomial_of_place}
use Rattle.sparse_poly.proofs.BoxMonomials.{counted, counted_some, counted_none, counted_end, length-monomial_of_place}
use Rattle.sparse_poly.proofs.boxes.before.Goals as goal

-- the side of a variable
side : (sides : List ℕ) (v : ℕ) → v < length sides → get_or sides v 0 ≡ get_or sides v 1
side sides v below = get_or_default sides v 0 1 below

one_more : (v : ℕ) → suc v ≡ v + 1
one_more v = omega arith

pub quotient-less-requires : goal.quotient-less-requires
quotient-less-requires c = λ w. elim (cases_eq w c.loop-v.v) [
  | inl same ↦
      let power = ap (exponent_of w) c.power.ensures ∙ ap (λ u. exponent_of u (power_monomial VARS c.loop-v.v 1)) same ∙ exponent_of-power_monomial VARS c.loop-v.v 1 (omega (arith, c.requires.variables, c.loop-v-test.true)) in
      let here = ap (λ u. exponent_of u c.loop-v.m) same in
      let exponent = c.exponent.ensures in
      let above = c.if-exponent-gt0.true in
      omega arith
  | inr other ↦
      let power = ap (exponent_of w) c.power.ensures ∙ exponent_of-power_monomial_other VARS c.loop-v.v w 1 other in
      omega arith
]

pub returns-then-exponent-gt0 : goal.returns-then-exponent-gt0
returns-then-exponent-gt0 c = λ k at.
    let is = c.loop-v.invariant k at in
    let above = c.if-exponent-gt0.true in
    let exponent = c.exponent.ensures in
    let here = ap (exponent_of c.loop-v.v) is in
    let power = power_monomial VARS c.loop-v.v 1 in
    let next = monomial_of_place VARS c.args.sides.now k in
    monomial_product_cancel power c.quotient-less.result next
    (c.shape-then-exponent-gt0.ensures.variables ∙ sym (length-monomial_of_place VARS c.args.sides.now k))
    (monomial_product_comm power c.quotient-less.result
    ∙ ap (monomial_product c.quotient-less.result) (sym c.power.ensures)
    ∙ c.quotient-less.ensures ∙ is
    ∙ sym (counted_some c.loop-v.v VARS c.args.sides.now k c.loop-v-test.true c.requires.variables c.requires.some (omega arith))
    ∙ monomial_product_comm next power)

pub overflow_sub-sides : goal.overflow_sub-sides
overflow_sub-sides c =
    let some = c.requires.some c.loop-v.v in
    omega (arith, side c.args.sides.now c.loop-v.v c.loop-v-test.true)

pub overflow_cast-sides : goal.overflow_cast-sides
overflow_cast-sides c =
    let narrow = c.requires.narrow c.loop-v.v in
    let some = c.requires.some c.loop-v.v in
    omega (arith, side c.args.sides.now c.loop-v.v c.loop-v-test.true)

pub product-m-requires : goal.product-m-requires
product-m-requires c = λ w. elim (cases_eq w c.loop-v.v) [
  | inl same ↦
      let power = ap (exponent_of w) c.power-in-loop-v.ensures ∙ ap (λ u. exponent_of u (power_monomial VARS c.loop-v.v (get_or c.args.sides.now c.loop-v.v 0 - 1))) same ∙ exponent_of-power_monomial VARS c.loop-v.v (get_or c.args.sides.now c.loop-v.v 0 - 1) (omega (arith, c.requires.variables, c.loop-v-test.true)) in
      let here = ap (λ u. exponent_of u c.loop-v.m) same in
      let exponent = c.exponent.ensures in
      let none = c.if-exponent-gt0.false in
      let narrow = c.requires.narrow c.loop-v.v in
      omega (arith, side c.args.sides.now c.loop-v.v c.loop-v-test.true)
  | inr other ↦
      let power = ap (exponent_of w) c.power-in-loop-v.ensures ∙ exponent_of-power_monomial_other VARS c.loop-v.v w (get_or c.args.sides.now c.loop-v.v 0 - 1) other in
      let most = c.shape.ensures.exponents w in
      omega arith
]

pub loop-v-preserved : goal.loop-v-preserved
loop-v-preserved c = λ k at.
    let is = c.loop-v.invariant k at in
    let none = c.if-exponent-gt0.false in
    let exponent = c.exponent.ensures in
    let here = ap (exponent_of c.loop-v.v) is in
    c.product-m.ensures ∙ ap (monomial_product c.loop-v.m) c.power-in-loop-v.ensures
    ∙ ap (λ m. monomial_product m (power_monomial VARS c.loop-v.v (get_or c.args.sides.now c.loop-v.v 0 - 1))) is
    ∙ counted_none c.loop-v.v VARS c.args.sides.now k c.loop-v-test.true c.requires.variables c.requires.some (omega arith)
    ∙ ap (λ u. counted u VARS c.args.sides.now k) (one_more c.loop-v.v)

pub returns : goal.returns
returns c = λ k at.
    let past = c.loop-v-test.false in
    let most = c.loop-v.auto.v-end in
    let end : c.loop-v.v ≡ length c.args.sides.now = omega arith in
    c.loop-v.invariant k at ∙ ap (λ u. counted u VARS c.args.sides.now k) end ∙ counted_end VARS c.args.sides.now k
