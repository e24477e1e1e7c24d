-- Each coefficient so far is a residue.
use Rattle.std.proofs.Common.{◌<◌}
use Rattle.std.specs.Prelude.{All}
use Rattle.sparse_poly.proofs.tests.sum_of_pairs.Given as goal

abbrev pub invariant-loop-t : goal.invariant-loop-t
invariant-loop-t l = All (λ t. t.1 < l.fn.f) l.terms.items

abbrev pub invariant-loop-u : goal.invariant-loop-u
invariant-loop-u l = All (λ t. t.1 < l.fn.f) l.terms.items
