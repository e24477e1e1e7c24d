-- The sum of the products that were made is that from the place on.
use Rattle.std.proofs.Common.{◌≡◌, ◌≤◌, Some, drop, length}
use Rattle.mono_words.specs.declared.mono.TheConstants.{VARS}
use Rattle.polynomials.specs.Polynomials.{IsPolynomial}
use Rattle.finish_rules.specs.Checks.{combination_within}
use Rattle.certificates.proofs.checks.sum_of_products.Given as goal

abbrev pub invariant-loop-i : goal.invariant-loop-i
invariant-loop-i l =
    (combination_within l.w.field VARS l.w.width (drop l.i l.cofactors) (drop l.i l.list) ≡ Some l.sum)
    × IsPolynomial l.w.field VARS l.sum
    × (l.i ≤ length l.cofactors)

abbrev pub decreases-loop-i : goal.decreases-loop-i
decreases-loop-i l = l.i
