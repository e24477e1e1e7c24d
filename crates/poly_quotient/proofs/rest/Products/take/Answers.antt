-- The top of the heap has the greatest product.
use Rattle.std.proofs.Common.{◌∷◌}
use Rattle.std.specs.BinaryHeap.{heap_items}
use Rattle.mono_words.specs.declared.mono.TheConstants.{VARS}
use Rattle.std.proofs.lemmas.List.Sorted.{IsPermutation-trans}
use Rattle.poly_quotient.proofs.EntryOrders.{at_most_from_bound}
use Rattle.poly_quotient.proofs.EntryProducts.{products_at_most}
use Rattle.poly_quotient.proofs.EntryTurns.{entries_moved, products_moved}
use Rattle.poly_quotient.proofs.rest.Products.take.Goals as goal

pub take_entry-requires-clause-products : goal.take_entry-requires-clause-products
take_entry-requires-clause-products c = entries_moved c.args.f VARS c.args.quotient.now c.args.divisor.now (heap_items c.args.self.now.heap) (c.in-Some.entry ∷ heap_items c.pop.new.self) c.args.self.now.waiting.items c.in-Some.ensures.permutation c.requires.products

pub returns-in_ok-take_entry-in-Some-clause-some : goal.returns-in_ok-take_entry-in-Some-clause-some
returns-in_ok-take_entry-in-Some-clause-some c = IsPermutation-trans _ _ _ (products_moved c.args.f VARS c.args.quotient.now c.args.divisor.now (heap_items c.args.self.now.heap) (c.in-Some.entry ∷ heap_items c.pop.new.self) c.in-Some.ensures.permutation) c.in_ok-take_entry-in-Some.ensures.first

pub returns-in_ok-take_entry-in-Some-clause-most : goal.returns-in_ok-take_entry-in-Some-clause-most
returns-in_ok-take_entry-in-Some-clause-most c = products_at_most c.args.f VARS c.args.quotient.now c.args.divisor.now (heap_items c.args.self.now.heap) c.args.self.now.waiting.items c.requires.products c.in-Some.entry.0 (at_most_from_bound c.in-Some.entry (heap_items c.args.self.now.heap) (c.in-Some.ensures.heap_order c.requires.order).1)
