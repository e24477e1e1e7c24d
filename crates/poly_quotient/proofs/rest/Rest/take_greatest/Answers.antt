-- The greater of the first term and the top of the heap.
use Rattle.std.proofs.Common.{refl, arith}
use Rattle.std.specs.BinaryHeap.{heap_items}
use Rattle.mono_words.specs.declared.mono.TheConstants.{VARS}
use Rattle.poly_quotient.specs.Rests.{products_left}
use Rattle.poly_quotient.proofs.RestItems.{rest_of, takes_products, starts_nothing, starts_lower, takes_term}
use Rattle.poly_quotient.proofs.rest.Rest.take_greatest.Goals as goal

pub returns-in-None-clause-some : goal.returns-in-None-clause-some
returns-in-None-clause-some c = takes_products c.args.f VARS c.args.self.now.terms.now (products_left c.args.f c.args.quotient.now c.args.divisor.now (heap_items c.args.self.now.products.heap)) (products_left c.args.f c.args.quotient.now c.args.divisor.now (heap_items c.take.new.self.heap)) c.take.result (rest_of c.args.f VARS (let more = c.facts.ensures.least in omega arith) c.args.self.now.terms.now c.args.quotient.now c.args.divisor.now (heap_items c.args.self.now.products.heap) c.args.self.now.products.waiting.items c.requires.canonical c.requires.products) (λ t all. starts_nothing t.0 c.args.self.now.terms.now c.in-None.ensures.cases) c.take.ensures.some c.take.ensures.most

pub returns-then-has_greater-clause-some : goal.returns-then-has_greater-clause-some
returns-then-has_greater-clause-some c = takes_products c.args.f VARS c.args.self.now.terms.now (products_left c.args.f c.args.quotient.now c.args.divisor.now (heap_items c.args.self.now.products.heap)) (products_left c.args.f c.args.quotient.now c.args.divisor.now (heap_items c.take-then-has_greater.new.self.heap)) c.take-then-has_greater.result (rest_of c.args.f VARS (let more = c.facts.ensures.least in omega arith) c.args.self.now.terms.now c.args.quotient.now c.args.divisor.now (heap_items c.args.self.now.products.heap) c.args.self.now.products.waiting.items c.requires.canonical c.requires.products) (λ t all. starts_lower t c.in-Some.first.now c.args.self.now.terms.now c.in-Some.later.now (products_left c.args.f c.args.quotient.now c.args.divisor.now (heap_items c.args.self.now.products.heap)) c.in-Some.ensures.cases.0 (c.if-has_greater.ensures.some refl) all) c.take-then-has_greater.ensures.some c.take-then-has_greater.ensures.most

pub returns-else-has_greater-clause-some : goal.returns-else-has_greater-clause-some
returns-else-has_greater-clause-some c = takes_term c.args.f VARS c.args.self.now.terms.now c.in-Some.later.now (products_left c.args.f c.args.quotient.now c.args.divisor.now (heap_items c.args.self.now.products.heap)) c.in-Some.first.now c.in-Some.ensures.cases.0 c.requires.canonical (c.if-has_greater.ensures.none (λ e. cc))
