-- Of the terms that wait, the last goes on.
use Rattle.std.proofs.Common.{length}
use Rattle.std.specs.BinaryHeap.{IsHeap, heap_items}
use Rattle.mono_words.specs.declared.mono.TheConstants.{VARS}
use Rattle.poly_quotient.specs.Rests.{entry_order}
use Rattle.poly_quotient.proofs.EntryTurns.{IsGoingOn}
use Rattle.poly_quotient.proofs.rest.Products.go_on.Given as goal

abbrev pub invariant-loop-j : goal.invariant-loop-j
invariant-loop-j l =
    IsHeap entry_order (heap_items l.self.heap)
    × IsGoingOn l.fn.f VARS l.quotient l.divisor l.fn.t (heap_items l.fn.self.heap) (heap_items l.self.heap) l.self.waiting.items

abbrev pub decreases-loop-j : goal.decreases-loop-j
decreases-loop-j l = length l.self.waiting.items
