-- The coefficients of one monomial are added.
use Rattle.std.proofs.Common.{◌≡◌, [], ◌++◌, ◌∙◌, refl, ap, arith}
use Rattle.std.specs.BinaryHeap.{heap_items}
use Rattle.mono_words.specs.declared.mono.TheConstants.{VARS}
use Rattle.polynomials.specs.Polynomials.{Term, collected}
use Rattle.poly_quotient.specs.Rests.{products_left, TakesGreatest}
use Rattle.poly_quotient.proofs.Clauses.{some_at, none_at}
use Rattle.poly_quotient.proofs.RestItems.{rest_of}
use Rattle.poly_quotient.proofs.RestTurns.{cancels, comes_first}
use Rattle.poly_quotient.proofs.rest.Rest.take_first.Goals as goal

pub loop-first-init : goal.loop-first-init
loop-first-init c = (c.requires.canonical, c.requires.order, c.requires.products, refl)

pub take_greatest-requires-clause-canonical : goal.take_greatest-requires-clause-canonical
take_greatest-requires-clause-canonical c = c.loop-first.invariant.0

pub take_greatest-requires-clause-order : goal.take_greatest-requires-clause-order
take_greatest-requires-clause-order c = c.loop-first.invariant.1

pub take_greatest-requires-clause-products : goal.take_greatest-requires-clause-products
take_greatest-requires-clause-products c = c.loop-first.invariant.2

pub returns-then-sum-ne0-clause-some : goal.returns-then-sum-ne0-clause-some
returns-then-sum-ne0-clause-some c =
    let taken : TakesGreatest c.args.f VARS c.loop-first.self.terms.now (products_left c.args.f c.args.quotient.now c.args.divisor.now (heap_items c.loop-first.self.products.heap)) c.in-Some.first c.take_greatest.new.self.terms.now (products_left c.args.f c.args.quotient.now c.args.divisor.now (heap_items c.take_greatest.new.self.products.heap)) = some_at (λ (t : Term). TakesGreatest c.args.f VARS c.loop-first.self.terms.now (products_left c.args.f c.args.quotient.now c.args.divisor.now (heap_items c.loop-first.self.products.heap)) t c.take_greatest.new.self.terms.now (products_left c.args.f c.args.quotient.now c.args.divisor.now (heap_items c.take_greatest.new.self.products.heap))) c.in_ok-first.field-0 c.in-Some.first c.in-Some.is c.in_ok-first.ensures.some in
    c.loop-first.invariant.3
    ∙ comes_first c.args.f VARS (let small = taken.residue in omega arith) c.loop-first.self.terms.now c.take_greatest.new.self.terms.now (products_left c.args.f c.args.quotient.now c.args.divisor.now (heap_items c.loop-first.self.products.heap)) (products_left c.args.f c.args.quotient.now c.args.divisor.now (heap_items c.take_greatest.new.self.products.heap)) (products_left c.args.f c.args.quotient.now c.args.divisor.now (heap_items c.sum_of.new.self.heap)) c.in-Some.first.0 c.in-Some.first.1 c.in_ok-sum.sum taken (rest_of c.args.f VARS (let small = taken.residue in omega arith) c.take_greatest.new.self.terms.now c.args.quotient.now c.args.divisor.now (heap_items c.take_greatest.new.self.products.heap) c.take_greatest.new.self.products.waiting.items c.take_greatest.ensures.canonical c.in_ok-first.ensures.products) c.in_ok-sum.ensures.sum (rest_of c.args.f VARS (let small = taken.residue in omega arith) [] c.args.quotient.now c.args.divisor.now (heap_items c.sum_of.new.self.heap) c.sum_of.new.self.waiting.items tt c.in_ok-sum.ensures.products) c.if-sum-ne0.true c.in_ok-sum.ensures.residue c.in_ok-sum.ensures.below

pub loop-first-smaller : goal.loop-first-smaller
loop-first-smaller c =
    let taken : TakesGreatest c.args.f VARS c.loop-first.self.terms.now (products_left c.args.f c.args.quotient.now c.args.divisor.now (heap_items c.loop-first.self.products.heap)) c.in-Some.first c.take_greatest.new.self.terms.now (products_left c.args.f c.args.quotient.now c.args.divisor.now (heap_items c.take_greatest.new.self.products.heap)) = some_at (λ (t : Term). TakesGreatest c.args.f VARS c.loop-first.self.terms.now (products_left c.args.f c.args.quotient.now c.args.divisor.now (heap_items c.loop-first.self.products.heap)) t c.take_greatest.new.self.terms.now (products_left c.args.f c.args.quotient.now c.args.divisor.now (heap_items c.take_greatest.new.self.products.heap))) c.in_ok-first.field-0 c.in-Some.first c.in-Some.is c.in_ok-first.ensures.some in
    let count = taken.count in
    let fewer = c.in_ok-sum.ensures.count in
    omega arith

pub loop-first-preserved : goal.loop-first-preserved
loop-first-preserved c =
    let taken : TakesGreatest c.args.f VARS c.loop-first.self.terms.now (products_left c.args.f c.args.quotient.now c.args.divisor.now (heap_items c.loop-first.self.products.heap)) c.in-Some.first c.take_greatest.new.self.terms.now (products_left c.args.f c.args.quotient.now c.args.divisor.now (heap_items c.take_greatest.new.self.products.heap)) = some_at (λ (t : Term). TakesGreatest c.args.f VARS c.loop-first.self.terms.now (products_left c.args.f c.args.quotient.now c.args.divisor.now (heap_items c.loop-first.self.products.heap)) t c.take_greatest.new.self.terms.now (products_left c.args.f c.args.quotient.now c.args.divisor.now (heap_items c.take_greatest.new.self.products.heap))) c.in_ok-first.field-0 c.in-Some.first c.in-Some.is c.in_ok-first.ensures.some in (
      c.take_greatest.ensures.canonical,
      c.in_ok-sum.ensures.order,
      c.in_ok-sum.ensures.products,
      c.loop-first.invariant.3
          ∙ cancels c.args.f VARS (let small = taken.residue in omega arith) c.loop-first.self.terms.now c.take_greatest.new.self.terms.now (products_left c.args.f c.args.quotient.now c.args.divisor.now (heap_items c.loop-first.self.products.heap)) (products_left c.args.f c.args.quotient.now c.args.divisor.now (heap_items c.take_greatest.new.self.products.heap)) (products_left c.args.f c.args.quotient.now c.args.divisor.now (heap_items c.sum_of.new.self.heap)) c.in-Some.first.0 c.in-Some.first.1 c.in_ok-sum.sum taken (rest_of c.args.f VARS (let small = taken.residue in omega arith) c.take_greatest.new.self.terms.now c.args.quotient.now c.args.divisor.now (heap_items c.take_greatest.new.self.products.heap) c.take_greatest.new.self.products.waiting.items c.take_greatest.ensures.canonical c.in_ok-first.ensures.products) c.in_ok-sum.ensures.sum (rest_of c.args.f VARS (let small = taken.residue in omega arith) [] c.args.quotient.now c.args.divisor.now (heap_items c.sum_of.new.self.heap) c.sum_of.new.self.waiting.items tt c.in_ok-sum.ensures.products) c.if-sum-ne0.false,
    )

pub returns-clause-none : goal.returns-clause-none
returns-clause-none c = c.loop-first.invariant.3 ∙ ap (collected c.args.f) (none_at (c.loop-first.self.terms.now ++ (products_left c.args.f c.args.quotient.now c.args.divisor.now (heap_items c.loop-first.self.products.heap)) ≡ []) c.in_ok-first.field-0 c.in_default.is c.in_ok-first.ensures.none)
