-- What was copied and what is to come of those above are all of them.
use Rattle.std.proofs.Common.{◌≡◌, ◌++◌, drop}
use Rattle.impose_rules.specs.Chains.{members_above}
use Rattle.chains.proofs.lists.push_above.Given as goal

abbrev pub invariant-loop-i : goal.invariant-loop-i
invariant-loop-i l = l.out ++ members_above l.v (drop l.i l.list) ≡ l.initial.out ++ members_above l.v l.list
