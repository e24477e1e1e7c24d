-- The top of the heap is the greatest.
use Rattle.std.proofs.Common.{sym, ◌∙◌}
use Rattle.std.specs.BinaryHeap.{heap_items}
use Rattle.mono_words.specs.declared.mono.TheConstants.{VARS}
use Rattle.std.proofs.lemmas.Bool.{false_from_ne_true}
use Rattle.sparse_poly.specs.Falling.{IsAtMost}
use Rattle.poly_quotient.specs.Rests.{Entry}
use Rattle.poly_quotient.proofs.EntryOrders.{at_most_from_bound, at_most_beside, at_most_from_test, not_at_most, first_item}
use Rattle.poly_quotient.proofs.EntryProducts.{products_at_most, entries_at_most}
use Rattle.poly_quotient.proofs.rest.Products.has_greater.Goals as goal

pub returns-in-Some-clause-some : goal.returns-in-Some-clause-some
returns-in-Some-clause-some c = λ holds all.
    not_at_most c.args.monomial c.in-Some.top.now.0 (sym c.gt.ensures ∙ holds)
    (first_item (λ (e : Entry). IsAtMost c.args.monomial e.0) (heap_items c.args.self.now.heap) c.in-Some.top.now c.in-Some.ensures.item.3.0 c.in-Some.ensures.lookup (entries_at_most c.args.f VARS c.args.quotient.now c.args.divisor.now (heap_items c.args.self.now.heap) c.args.self.now.waiting.items c.requires.products c.args.monomial all))

pub returns-in-Some-clause-none : goal.returns-in-Some-clause-none
returns-in-Some-clause-none c = λ fails.
    products_at_most c.args.f VARS c.args.quotient.now c.args.divisor.now (heap_items c.args.self.now.heap) c.args.self.now.waiting.items c.requires.products c.args.monomial
    (at_most_beside c.args.monomial c.in-Some.top.now (heap_items c.args.self.now.heap)
    (at_most_from_test c.args.monomial c.in-Some.top.now.0 (sym c.gt.ensures ∙ false_from_ne_true c.gt.result fails))
    (at_most_from_bound c.in-Some.top.now (heap_items c.args.self.now.heap) (c.in-Some.ensures.greatest c.requires.order)))
