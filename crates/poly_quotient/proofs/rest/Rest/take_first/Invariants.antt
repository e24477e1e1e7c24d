-- What cancelled is nothing: what stays has the same sum.
use Rattle.std.proofs.Common.{◌≡◌, ◌+◌, length}
use Rattle.std.specs.BinaryHeap.{IsHeap, heap_items}
use Rattle.mono_words.specs.declared.mono.TheConstants.{VARS}
use Rattle.polynomials.specs.Polynomials.{IsPolynomial}
use Rattle.poly_quotient.specs.Rests.{entry_order, AreProducts, products_left, sum_of_rest}
use Rattle.poly_quotient.proofs.rest.Rest.take_first.Given as goal

abbrev pub invariant-loop-first : goal.invariant-loop-first
invariant-loop-first l =
    IsPolynomial l.f VARS l.self.terms.now
    × IsHeap entry_order (heap_items l.self.products.heap)
    × AreProducts l.f VARS l.quotient l.divisor (heap_items l.self.products.heap) l.self.products.waiting.items
    × (sum_of_rest l.f l.fn.self.terms.now (products_left l.f l.quotient l.divisor (heap_items l.fn.self.products.heap)) ≡ sum_of_rest l.f l.self.terms.now (products_left l.f l.quotient l.divisor (heap_items l.self.products.heap)))

abbrev pub decreases-loop-first : goal.decreases-loop-first
decreases-loop-first l = length l.self.terms.now + length (products_left l.f l.quotient l.divisor (heap_items l.self.products.heap))
