-- Each turn takes the greater first product, or both where they are of one monomial.
use Rattle.std.proofs.Common.{arith, ◌+◌, ◌%◌, [], ◌∷◌, sym, ap₂, ◌∙◌, inl, inr, subst}
use Rattle.mono_words.specs.declared.mono.TheConstants.{VARS}
use Rattle.polynomials.specs.Polynomials.{IsPolynomial, product_of}
use Rattle.polynomials.proofs.Canonical.{IsPolynomial-sum_of, IsPolynomial-product_of}
use Rattle.sparse_poly.proofs.Moduli.{positive_modulus}
use Rattle.sparse_poly.proofs.FittingPairs.{FitsEach-item, FitsEach-drop}
use Rattle.sparse_poly.proofs.Places.{IsPolynomial-item, IsPolynomial-drop, take_rest}
use Rattle.sparse_poly.proofs.MultipleTurns.{multiple_greater, multiple_less, multiples_equal_zero, multiples_equal, multiples_end}
use Rattle.sparse_poly.proofs.multiples.sum_of_multiples.Goals as goal
use Rattle.sparse_poly.proofs.multiples.sum_of_multiples.Goals.{then-sum-ne0+in_ok-push-in-Equal, else-sum-ne0, then-loop-i-test+else-j-b, else-loop-i-test}

pub product-left-requires : goal.product-left-requires
product-left-requires c = FitsEach-item c.args.t.0 c.args.a.now c.loop-i.i c.index-a-i.result c.requires.left_fits c.loop-i-test.true c.index-a-i.is

pub product-right-requires : goal.product-right-requires
product-right-requires c = FitsEach-item c.args.u.0 c.args.b.now c.loop-i.j c.index-b-j.result c.requires.right_fits c.if-j-b.true c.index-b-j.is

pub mul-requires-clause-right : goal.mul-requires-clause-right
mul-requires-clause-right c = (IsPolynomial-item c.args.f VARS c.loop-i.i c.args.a.now c.index-a-i.result c.requires.left c.loop-i-test.true c.index-a-i.is).2

pub mul-requires-in-Less-clause-right : goal.mul-requires-in-Less-clause-right
mul-requires-in-Less-clause-right c = (IsPolynomial-item c.args.f VARS c.loop-i.j c.args.b.now c.index-b-j.result c.requires.right c.if-j-b.true c.index-b-j.is).2

pub mul-requires-in-Equal-clause-right : goal.mul-requires-in-Equal-clause-right
mul-requires-in-Equal-clause-right c = (IsPolynomial-item c.args.f VARS c.loop-i.i c.args.a.now c.index-a-i.result c.requires.left c.loop-i-test.true c.index-a-i.is).2

pub mul-requires-in-Equal-2-clause-right : goal.mul-requires-in-Equal-2-clause-right
mul-requires-in-Equal-2-clause-right c = (IsPolynomial-item c.args.f VARS c.loop-i.j c.args.b.now c.index-b-j.result c.requires.right c.if-j-b.true c.index-b-j.is).2

pub loop-i-preserved-in-Greater : goal.loop-i-preserved-in-Greater
loop-i-preserved-in-Greater c = (
  omega arith,
  c.loop-i.invariant.1,
  rw c.in_ok-push-in-Greater.ensures.items (multiple_greater c.args.f VARS c.facts.ensures.prime c.args.t c.args.a.now c.args.u c.args.b.now c.requires.first c.requires.second c.requires.left c.requires.right c.loop-i.out.items c.loop-i.i c.loop-i.j c.index-a-i.result c.index-b-j.result c.product-left.result c.product-right.result c.loop-i-test.true c.if-j-b.true c.index-a-i.is c.index-b-j.is c.product-left.ensures c.product-right.ensures c.mul.result c.mul.ensures.product (sym c.in-Greater.ensures) _ c.loop-i.invariant.2),
)

pub loop-i-preserved-in-Less : goal.loop-i-preserved-in-Less
loop-i-preserved-in-Less c = (
  c.loop-i.invariant.0,
  omega arith,
  rw c.in_ok-push-in-Less.ensures.items (multiple_less c.args.f VARS c.facts.ensures.prime c.args.t c.args.a.now c.args.u c.args.b.now c.requires.first c.requires.second c.requires.left c.requires.right c.loop-i.out.items c.loop-i.i c.loop-i.j c.index-a-i.result c.index-b-j.result c.product-left.result c.product-right.result c.loop-i-test.true c.if-j-b.true c.index-a-i.is c.index-b-j.is c.product-left.ensures c.product-right.ensures c.mul-in-Less.result c.mul-in-Less.ensures.product (sym c.in-Less.ensures) _ c.loop-i.invariant.2),
)

pub loop-i-preserved : goal.loop-i-preserved
loop-i-preserved c = (
  omega arith,
  omega arith,
  elim c.if-sum-ne0.branch [
    | then-sum-ne0+in_ok-push-in-Equal w ↦ rw (w.out-is, w.in_ok-push-in-Equal.ensures.items) (multiples_equal c.args.f VARS c.facts.ensures.prime c.args.t c.args.a.now c.args.u c.args.b.now c.requires.first c.requires.second c.requires.left c.requires.right c.loop-i.out.items c.loop-i.i c.loop-i.j c.index-a-i.result c.index-b-j.result c.product-left.result c.product-right.result c.loop-i-test.true c.if-j-b.true c.index-a-i.is c.index-b-j.is c.product-left.ensures c.product-right.ensures c.add-sum.result (c.add-sum.ensures.sum ∙ ap₂ (λ a b. (a + b) % c.args.f) c.mul-in-Equal.ensures.product c.mul-in-Equal-2.ensures.product) w.if-sum-ne0.true (sym c.in-Equal.ensures) _ c.loop-i.invariant.2)
    | else-sum-ne0 w ↦ rw w.out-is (multiples_equal_zero c.args.f VARS c.facts.ensures.prime c.args.t c.args.a.now c.args.u c.args.b.now c.requires.first c.requires.second c.requires.left c.requires.right c.loop-i.out.items c.loop-i.i c.loop-i.j c.index-a-i.result c.index-b-j.result c.product-left.result c.product-right.result c.loop-i-test.true c.if-j-b.true c.index-a-i.is c.index-b-j.is c.product-left.ensures c.product-right.ensures (sym (c.add-sum.ensures.sum ∙ ap₂ (λ a b. (a + b) % c.args.f) c.mul-in-Equal.ensures.product c.mul-in-Equal-2.ensures.product) ∙ w.if-sum-ne0.false) (sym c.in-Equal.ensures) _ c.loop-i.invariant.2)
  ],
)

pub append_multiple-requires-clause-over : goal.append_multiple-requires-clause-over
append_multiple-requires-clause-over c = rw (take_rest c.args.a.now c.loop-i.i) (IsPolynomial-drop c.args.f VARS c.loop-i.i c.args.a.now c.requires.left)

pub append_multiple-requires-clause-fit : goal.append_multiple-requires-clause-fit
append_multiple-requires-clause-fit c = rw (take_rest c.args.a.now c.loop-i.i) (FitsEach-drop c.args.t.0 c.loop-i.i c.args.a.now c.requires.left_fits)

pub append_multiple-requires-2-clause-over : goal.append_multiple-requires-2-clause-over
append_multiple-requires-2-clause-over c = rw (take_rest c.args.b.now c.loop-i.j) (IsPolynomial-drop c.args.f VARS c.loop-i.j c.args.b.now c.requires.right)

pub append_multiple-requires-2-clause-fit : goal.append_multiple-requires-2-clause-fit
append_multiple-requires-2-clause-fit c = rw (take_rest c.args.b.now c.loop-i.j) (FitsEach-drop c.args.u.0 c.loop-i.j c.args.b.now c.requires.right_fits)

pub returns-clause-value : goal.returns-clause-value
returns-clause-value c =
    rw (c.in_ok-append_multiple-2.ensures, c.in_ok-append_multiple.ensures, take_rest c.args.a.now c.loop-i.i, take_rest c.args.b.now c.loop-i.j)
    (multiples_end c.args.f VARS c.facts.ensures.prime c.args.t c.args.a.now c.args.u c.args.b.now c.requires.first c.requires.second c.requires.left c.requires.right c.loop-i.out.items c.loop-i.i c.loop-i.j
    (elim c.loop-i-test.branch [ then-loop-i-test+else-j-b w ↦ inr w.if-j-b.false | else-loop-i-test w ↦ inl w.loop-i-test.false ])
    c.loop-i.invariant.2)

pub returns-clause-over : goal.returns-clause-over
returns-clause-over c =
    let positive = positive_modulus c.facts.ensures.least in
    subst (IsPolynomial c.args.f VARS) (sym (returns-clause-value c))
    (IsPolynomial-sum_of c.args.f VARS positive (product_of c.args.f (c.args.t ∷ []) c.args.a.now) (product_of c.args.f (c.args.u ∷ []) c.args.b.now)
    (IsPolynomial-product_of c.args.f VARS positive (c.args.t ∷ []) c.args.a.now c.requires.first c.requires.left)
    (IsPolynomial-product_of c.args.f VARS positive (c.args.u ∷ []) c.args.b.now c.requires.second c.requires.right))
