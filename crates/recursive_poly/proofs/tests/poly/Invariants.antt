-- Each coefficient that was taken is a residue.
use Rattle.std.proofs.Common.{◌<◌}
use Rattle.std.specs.Prelude.{All}
use Rattle.recursive_poly.proofs.tests.poly.Given as goal

abbrev pub invariant-loop-d : goal.invariant-loop-d
invariant-loop-d l = All (λ t. t.1 < l.fn.f) l.list.items
