-- What was taken and what is to come are the tail.
use Rattle.std.proofs.Common.{◌≡◌, ◌++◌, drop}
use Rattle.polynomials.specs.Views.{without_power}
use Rattle.sparse_poly.proofs.poly.Poly.tail_in.Given as goal

abbrev pub invariant-loop-t : goal.invariant-loop-t
invariant-loop-t l = l.terms.items ++ without_power l.fn.v l.degree (drop l.t-index l.t-items) ≡ without_power l.fn.v l.degree l.t-items
