-- The polynomials before the place don't have the main variable.
use Rattle.std.proofs.Common.{◌≡◌, drop}
use Rattle.zero_sets.specs.ZeroSets.{member_in}
use Rattle.chains.proofs.chain.Chain.at.Given as goal

abbrev pub invariant-loop-i : goal.invariant-loop-i
invariant-loop-i l = member_in l.v (drop l.i l.self-inside.polys) ≡ member_in l.v l.self-inside.polys
