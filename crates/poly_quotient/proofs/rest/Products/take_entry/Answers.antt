-- The first product of an entry, and what goes on.
use Rattle.std.proofs.Common.{◌+◌}
use Rattle.std.specs.BinaryHeap.{heap_items}
use Rattle.mono_words.specs.declared.mono.TheConstants.{VARS}
use Rattle.sparse_poly.proofs.Places.{IsPolynomial-item}
use Rattle.sparse_poly.proofs.FittingPairs.{PairsFit-items}
use Rattle.poly_quotient.proofs.EntryProducts.{read_term}
use Rattle.poly_quotient.proofs.EntryTurns.{entry_is, first_before_next, first_is_last, next_entry, term_waits}
use Rattle.poly_quotient.proofs.rest.Products.take_entry.Goals as goal

pub bounds-quotient-i : goal.bounds-quotient-i
bounds-quotient-i c = (entry_is c.args.f VARS c.args.quotient.now c.args.divisor.now c.args.entry (heap_items c.args.self.now.heap) c.args.self.now.waiting.items c.requires.products).0

pub bounds-divisor-j : goal.bounds-divisor-j
bounds-divisor-j c = (entry_is c.args.f VARS c.args.quotient.now c.args.divisor.now c.args.entry (heap_items c.args.self.now.heap) c.args.self.now.waiting.items c.requires.products).1

pub neg-requires : goal.neg-requires
neg-requires c = (IsPolynomial-item c.args.f VARS c.args.entry.1 c.args.quotient.now c.index-quotient-i.result c.requires.products.quotient (entry_is c.args.f VARS c.args.quotient.now c.args.divisor.now c.args.entry (heap_items c.args.self.now.heap) c.args.self.now.waiting.items c.requires.products).0 c.index-quotient-i.is).2

pub mul-c-requires-clause-right : goal.mul-c-requires-clause-right
mul-c-requires-clause-right c = (IsPolynomial-item c.args.f VARS c.args.entry.2 c.args.divisor.now c.index-divisor-j.result c.requires.products.divisor (entry_is c.args.f VARS c.args.quotient.now c.args.divisor.now c.args.entry (heap_items c.args.self.now.heap) c.args.self.now.waiting.items c.requires.products).1 c.index-divisor-j.is).2

pub product-requires : goal.product-requires
product-requires c = PairsFit-items c.args.quotient.now c.args.divisor.now (c.args.entry.1 + 1) c.args.entry.2 c.index-quotient-i-then-i-quotient.result c.index-divisor-j.result c.requires.products.fit c.if-i-quotient.true c.index-quotient-i-then-i-quotient.is (entry_is c.args.f VARS c.args.quotient.now c.args.divisor.now c.args.entry (heap_items c.args.self.now.heap) c.args.self.now.waiting.items c.requires.products).1 c.index-divisor-j.is

pub returns-in_ok-push-clause-products : goal.returns-in_ok-push-clause-products
returns-in_ok-push-clause-products c =
    next_entry c.args.f VARS c.args.quotient.now c.args.divisor.now c.args.entry (heap_items c.args.self.now.heap) c.args.self.now.waiting.items c.requires.products c.index-quotient-i-then-i-quotient.result c.index-divisor-j.result c.product.result (heap_items c.push.new.self) c.if-i-quotient.true
    (read_term c.args.quotient.now (c.args.entry.1 + 1) c.index-quotient-i-then-i-quotient.result c.if-i-quotient.true c.index-quotient-i-then-i-quotient.is)
    (read_term c.args.divisor.now c.args.entry.2 c.index-divisor-j.result (entry_is c.args.f VARS c.args.quotient.now c.args.divisor.now c.args.entry (heap_items c.args.self.now.heap) c.args.self.now.waiting.items c.requires.products).1 c.index-divisor-j.is) c.product.ensures c.in_ok-push.ensures.permutation

pub returns-in_ok-push-clause-first : goal.returns-in_ok-push-clause-first
returns-in_ok-push-clause-first c =
    first_before_next c.args.f VARS c.args.quotient.now c.args.divisor.now c.args.entry (heap_items c.args.self.now.heap) c.args.self.now.waiting.items c.requires.products c.index-quotient-i.result c.index-divisor-j.result c.mul-c.result c.neg.result
    (read_term c.args.quotient.now c.args.entry.1 c.index-quotient-i.result (entry_is c.args.f VARS c.args.quotient.now c.args.divisor.now c.args.entry (heap_items c.args.self.now.heap) c.args.self.now.waiting.items c.requires.products).0 c.index-quotient-i.is)
    (read_term c.args.divisor.now c.args.entry.2 c.index-divisor-j.result (entry_is c.args.f VARS c.args.quotient.now c.args.divisor.now c.args.entry (heap_items c.args.self.now.heap) c.args.self.now.waiting.items c.requires.products).1 c.index-divisor-j.is) c.neg.ensures.negative c.mul-c.ensures.product c.product.result (heap_items c.push.new.self) c.in_ok-push.ensures.permutation

pub returns-in_ok-push-2-clause-products : goal.returns-in_ok-push-2-clause-products
returns-in_ok-push-2-clause-products c = term_waits c.args.f VARS c.args.quotient.now c.args.divisor.now c.args.entry (heap_items c.args.self.now.heap) c.args.self.now.waiting.items c.requires.products c.push-else-i-quotient.new.self.items c.in_ok-push-2.ensures.items

pub returns-in_ok-push-2-clause-first : goal.returns-in_ok-push-2-clause-first
returns-in_ok-push-2-clause-first c =
    first_is_last c.args.f VARS c.args.quotient.now c.args.divisor.now c.args.entry (heap_items c.args.self.now.heap) c.args.self.now.waiting.items c.requires.products c.index-quotient-i.result c.index-divisor-j.result c.mul-c.result c.neg.result
    (read_term c.args.quotient.now c.args.entry.1 c.index-quotient-i.result (entry_is c.args.f VARS c.args.quotient.now c.args.divisor.now c.args.entry (heap_items c.args.self.now.heap) c.args.self.now.waiting.items c.requires.products).0 c.index-quotient-i.is)
    (read_term c.args.divisor.now c.args.entry.2 c.index-divisor-j.result (entry_is c.args.f VARS c.args.quotient.now c.args.divisor.now c.args.entry (heap_items c.args.self.now.heap) c.args.self.now.waiting.items c.requires.products).1 c.index-divisor-j.is) c.neg.ensures.negative c.mul-c.ensures.product c.if-i-quotient.false
