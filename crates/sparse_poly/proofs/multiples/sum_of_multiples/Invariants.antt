-- What was merged and the sum of what is left of both multiples are the whole sum.
use Rattle.std.proofs.Common.{◌≡◌, ◌++◌, ◌+◌, ◌-◌, ◌≤◌, map, drop, length}
use Rattle.polynomials.specs.Polynomials.{sum_of}
use Rattle.sparse_poly.proofs.Products.{reduced_product}
use Rattle.sparse_poly.proofs.multiples.sum_of_multiples.Given as goal

abbrev pub invariant-loop-i : goal.invariant-loop-i
invariant-loop-i l =
    (l.i ≤ length l.a) × (l.j ≤ length l.b)
    × (l.out.items ++ sum_of l.fn.f (drop l.i (map (reduced_product l.fn.f l.fn.t) l.a)) (drop l.j (map (reduced_product l.fn.f l.fn.u) l.b)) ≡ sum_of l.fn.f (map (reduced_product l.fn.f l.fn.t) l.a) (map (reduced_product l.fn.f l.fn.u) l.b))

abbrev pub decreases-loop-i : goal.decreases-loop-i
decreases-loop-i l = (length l.a - l.i) + (length l.b - l.j)
