-- Each that waits goes on with the term.
use Rattle.std.proofs.Common.{refl, length, sym, ◌∙◌}
use Rattle.std.specs.BinaryHeap.{heap_items}
use Rattle.mono_words.specs.declared.mono.TheConstants.{VARS}
use Rattle.sparse_poly.proofs.FittingPairs.{FitsEach-item}
use Rattle.poly_quotient.proofs.EntryProducts.{read_term}
use Rattle.poly_quotient.proofs.EntryTurns.{going_on, last_place, goes_on, none_waits, none_left, pop_is}
use Rattle.poly_quotient.proofs.rest.Products.go_on.Goals as goal

pub loop-j-init : goal.loop-j-init
loop-j-init c = (c.requires.order, going_on c.args.f VARS c.args.quotient.now c.args.divisor.now c.args.t (heap_items c.args.self.now.heap) c.args.self.now.waiting.items c.requires.next c.requires.fit c.requires.few c.requires.products)

pub bounds-divisor-j : goal.bounds-divisor-j
bounds-divisor-j c = last_place c.args.f VARS c.args.quotient.now c.args.divisor.now c.args.t (heap_items c.args.self.now.heap) (heap_items c.loop-j.self.heap) c.loop-j.self.waiting.items c.pop.new.self.items c.in-Some.j (pop_is c.loop-j.self.waiting.items c.pop.new.self.items c.pop.result c.in-Some.j c.in-Some.is c.pop.ensures.items) c.loop-j.invariant.1

pub product-requires : goal.product-requires
product-requires c = FitsEach-item c.args.t.0 c.args.divisor.now c.in-Some.j c.index-divisor-j.result c.requires.fit (last_place c.args.f VARS c.args.quotient.now c.args.divisor.now c.args.t (heap_items c.args.self.now.heap) (heap_items c.loop-j.self.heap) c.loop-j.self.waiting.items c.pop.new.self.items c.in-Some.j (pop_is c.loop-j.self.waiting.items c.pop.new.self.items c.pop.result c.in-Some.j c.in-Some.is c.pop.ensures.items) c.loop-j.invariant.1) c.index-divisor-j.is

pub loop-j-preserved : goal.loop-j-preserved
loop-j-preserved c = (
  c.in_ok-push.ensures.heap_order c.loop-j.invariant.0,
  goes_on c.args.f VARS c.args.quotient.now c.args.divisor.now c.args.t (heap_items c.args.self.now.heap) (heap_items c.loop-j.self.heap) c.loop-j.self.waiting.items c.pop.new.self.items c.in-Some.j (pop_is c.loop-j.self.waiting.items c.pop.new.self.items c.pop.result c.in-Some.j c.in-Some.is c.pop.ensures.items) c.loop-j.invariant.1 (heap_items c.push.new.self) (length c.args.quotient.now) c.index-divisor-j.result c.product.result refl
      (read_term c.args.divisor.now c.in-Some.j c.index-divisor-j.result (last_place c.args.f VARS c.args.quotient.now c.args.divisor.now c.args.t (heap_items c.args.self.now.heap) (heap_items c.loop-j.self.heap) c.loop-j.self.waiting.items c.pop.new.self.items c.in-Some.j (pop_is c.loop-j.self.waiting.items c.pop.new.self.items c.pop.result c.in-Some.j c.in-Some.is c.pop.ensures.items) c.loop-j.invariant.1) c.index-divisor-j.is) c.product.ensures c.in_ok-push.ensures.permutation,
)

pub returns-clause-order : goal.returns-clause-order
returns-clause-order c = c.loop-j.invariant.0

pub returns-clause-products : goal.returns-clause-products
returns-clause-products c = none_left c.args.f VARS c.args.quotient.now c.args.divisor.now c.args.t (heap_items c.args.self.now.heap) (heap_items c.loop-j.self.heap) c.loop-j.self.waiting.items c.pop.new.self.items c.pop.result c.in_default.is c.pop.ensures.items c.loop-j.invariant.1

pub returns-clause-moved : goal.returns-clause-moved
returns-clause-moved c = none_waits c.args.f VARS c.args.quotient.now c.args.divisor.now c.args.t (heap_items c.args.self.now.heap) (heap_items c.loop-j.self.heap) c.loop-j.self.waiting.items (sym c.loop-j.self.waiting.ok.0 ∙ c.in_default.ensures.cases.0) c.loop-j.invariant.1
