-- What was merged and the sum of what is left are the whole sum.
use Rattle.std.proofs.Common.{◌≡◌, ◌++◌, ◌+◌, ◌-◌, ◌≤◌, drop, length}
use Rattle.polynomials.specs.Polynomials.{sum_of}
use Rattle.sparse_poly.specs.Signs.{signed}
use Rattle.sparse_poly.proofs.merge.merged.Given as goal

abbrev pub invariant-loop-i : goal.invariant-loop-i
invariant-loop-i l =
    (l.i ≤ length l.a) × (l.j ≤ length l.b)
    × (l.out.items ++ sum_of l.fn.f (drop l.i l.a) (signed l.fn.f l.fn.sign (drop l.j l.b)) ≡ sum_of l.fn.f l.a (signed l.fn.f l.fn.sign l.b))

abbrev pub decreases-loop-i : goal.decreases-loop-i
decreases-loop-i l = (length l.a - l.i) + (length l.b - l.j)
