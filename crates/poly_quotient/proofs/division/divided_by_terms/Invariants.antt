-- The terms so far and the rest are a division of `a` by `b` on the way.
use Rattle.std.proofs.Common.{◌≡◌, ◌∷◌, ◌-◌, ◌*◌, ◌≤◌, length}
use Rattle.std.specs.BinaryHeap.{IsHeap, heap_items}
use Rattle.mono_words.specs.declared.mono.TheConstants.{VARS}
use Rattle.polynomials.specs.Polynomials.{IsPolynomial}
use Rattle.division_rules.proofs.Divisions.{IsDivision}
use Rattle.poly_quotient.specs.Rests.{entry_order, AreProducts, products_left, sum_of_rest}
use Rattle.poly_quotient.proofs.division.divided_by_terms.Given as goal

abbrev pub invariant-loop-rest : goal.invariant-loop-rest
invariant-loop-rest l =
    (l.b ≡ l.lead ∷ l.later)
    × IsPolynomial l.f VARS l.rest.terms.now
    × IsHeap entry_order (heap_items l.rest.products.heap)
    × AreProducts l.f VARS l.quotient.items l.later (heap_items l.rest.products.heap) l.rest.products.waiting.items
    × IsDivision l.f VARS l.lead l.later l.a l.quotient.items (sum_of_rest l.f l.rest.terms.now (products_left l.f l.quotient.items l.later (heap_items l.rest.products.heap)))
    × (length l.quotient.items * length l.b ≤ l.w.width)

abbrev pub decreases-loop-rest : goal.decreases-loop-rest
decreases-loop-rest l = l.w.width - length l.quotient.items
