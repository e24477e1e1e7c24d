-- The top of the heap is the greatest.
use Rattle.std.proofs.Common.{◌∷◌, sym}
use Rattle.std.specs.BinaryHeap.{heap_items}
use Rattle.mono_words.specs.declared.mono.TheConstants.{VARS}
use Rattle.polynomials.specs.Equalities.{same_monomial_decides}
use Rattle.sparse_poly.specs.Falling.{IsAtMost}
use Rattle.poly_quotient.specs.Rests.{Entry}
use Rattle.poly_quotient.proofs.EntryOrders.{at_most_from_bound, below_beside, first_item}
use Rattle.poly_quotient.proofs.EntryProducts.{products_below, entries_at_most}
use Rattle.poly_quotient.proofs.EntryTurns.{entries_moved, taken_at}
use Rattle.poly_quotient.proofs.rest.Products.take_at.Goals as goal

pub take_entry-requires-clause-products : goal.take_entry-requires-clause-products
take_entry-requires-clause-products c = entries_moved c.args.f VARS c.args.quotient.now c.args.divisor.now (heap_items c.args.self.now.heap) (c.in-Some-pop.entry ∷ heap_items c.pop.new.self) c.args.self.now.waiting.items c.in-Some-pop.ensures.permutation c.requires.products

pub returns-in_ok-take_entry-in-Some-pop-clause-some : goal.returns-in_ok-take_entry-in-Some-pop-clause-some
returns-in_ok-take_entry-in-Some-pop-clause-some c =
    taken_at c.args.f VARS c.args.quotient.now c.args.divisor.now (heap_items c.args.self.now.heap) (heap_items c.pop.new.self) (heap_items c.take_entry.new.self.heap) c.args.monomial c.in-Some-pop.entry c.in-Some.top.now c.in_ok-take_entry-in-Some-pop.field-0 c.in-Some.ensures.item.3.0 c.in-Some-pop.ensures.top c.in-Some.ensures.lookup
    ((same_monomial_decides c.in-Some.top.now.0 c.args.monomial).0 (sym c.if-eq.ensures)) c.in-Some-pop.ensures.permutation c.in_ok-take_entry-in-Some-pop.ensures.first

pub returns-in_default-clause-below : goal.returns-in_default-clause-below
returns-in_default-clause-below c =
    products_below c.args.f VARS c.args.quotient.now c.args.divisor.now (heap_items c.args.self.now.heap) c.args.self.now.waiting.items c.requires.products c.args.monomial
    (below_beside c.args.monomial c.in-Some.top.now (heap_items c.args.self.now.heap)
    (first_item (λ (e : Entry). IsAtMost c.args.monomial e.0) (heap_items c.args.self.now.heap) c.in-Some.top.now c.in-Some.ensures.item.3.0 c.in-Some.ensures.lookup (entries_at_most c.args.f VARS c.args.quotient.now c.args.divisor.now (heap_items c.args.self.now.heap) c.args.self.now.waiting.items c.requires.products c.args.monomial c.requires.most))
    (λ e. let same = (same_monomial_decides c.in-Some.top.now.0 c.args.monomial).1 e in let other = c.if-eq.ensures in cc)
    (at_most_from_bound c.in-Some.top.now (heap_items c.args.self.now.heap) (c.in-Some.ensures.greatest c.requires.order)))
