-- What joined the coefficient, and what stays, are the whole.
use Rattle.std.proofs.Common.{length}
use Rattle.std.specs.BinaryHeap.{IsHeap, heap_items}
use Rattle.mono_words.specs.declared.mono.TheConstants.{VARS}
use Rattle.poly_quotient.specs.Rests.{entry_order, AreProducts, products_left}
use Rattle.poly_quotient.proofs.RestTurns.{IsJoining}
use Rattle.poly_quotient.proofs.rest.Products.sum_of.Given as goal

abbrev pub invariant-loop-more : goal.invariant-loop-more
invariant-loop-more l =
    IsHeap entry_order (heap_items l.self.heap)
    × AreProducts l.f VARS l.quotient l.divisor (heap_items l.self.heap) l.self.waiting.items
    × IsJoining l.f VARS l.monomial l.c (products_left l.f l.quotient l.divisor (heap_items l.fn.self.heap)) l.sum (products_left l.f l.quotient l.divisor (heap_items l.self.heap))

abbrev pub decreases-loop-more : goal.decreases-loop-more
decreases-loop-more l = length (products_left l.f l.quotient l.divisor (heap_items l.self.heap))
