-- Each coefficient that was listed is a residue.
use Rattle.std.proofs.Common.{◌<◌, All}
use Rattle.poly_quotient.proofs.tests.poly.Given as goal

abbrev pub invariant-loop-d : goal.invariant-loop-d
invariant-loop-d l = All (λ t. t.1 < l.f) l.list.items
