-- What was made and what is to come are the whole.
use Rattle.std.proofs.Common.{◌≡◌, ◌++◌, drop}
use Rattle.polynomials.specs.Polynomials.{scaled}
use Rattle.sparse_poly.proofs.multiples.scaled.Given as goal

abbrev pub invariant-loop-u : goal.invariant-loop-u
invariant-loop-u l = l.out.items ++ scaled l.fn.f l.fn.c (drop l.u-index l.g) ≡ scaled l.fn.f l.fn.c l.g
