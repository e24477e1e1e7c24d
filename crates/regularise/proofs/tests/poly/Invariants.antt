-- Each coefficient that was taken is a residue.
use Rattle.std.proofs.Common.{◌<◌}
use Rattle.std.specs.Prelude.{All}
use Rattle.regularise.proofs.tests.poly.Given as goal

abbrev pub invariant-loop-c : goal.invariant-loop-c
invariant-loop-c l = All (λ t. t.1 < l.fn.f) l.list.items
