-- What was copied and what is to come of those below are all of them.
use Rattle.std.proofs.Common.{◌≡◌, ◌++◌, drop}
use Rattle.zero_sets.specs.ZeroSets.{members_below}
use Rattle.chains.proofs.lists.copied_below.Given as goal

abbrev pub invariant-loop-i : goal.invariant-loop-i
invariant-loop-i l = l.out ++ members_below l.v (drop l.i l.list) ≡ members_below l.v l.list
