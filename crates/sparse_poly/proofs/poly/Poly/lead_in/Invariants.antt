-- What was taken and what is to come are the lead.
use Rattle.std.proofs.Common.{◌≡◌, ◌++◌, drop}
use Rattle.polynomials.specs.Views.{coefficient_in}
use Rattle.sparse_poly.proofs.poly.Poly.lead_in.Given as goal

abbrev pub invariant-loop-t : goal.invariant-loop-t
invariant-loop-t l = l.terms.items ++ coefficient_in l.fn.v l.degree (drop l.t-index l.t-items) ≡ coefficient_in l.fn.v l.degree l.t-items
