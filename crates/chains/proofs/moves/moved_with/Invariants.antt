-- What was moved and what is to come are all below, and all above.
use Rattle.std.proofs.Common.{◌≡◌, ◌++◌, length}
use Rattle.zero_sets.specs.ZeroSets.{members_below}
use Rattle.impose_rules.specs.Chains.{members_above}
use Rattle.chains.proofs.moves.moved_with.Given as goal

abbrev pub invariant-loop-s : goal.invariant-loop-s
invariant-loop-s l =
    (l.lesser ++ members_below l.v l.rest ≡ members_below l.v l.initial.rest)
    × (l.greater ++ members_above l.v l.rest ≡ members_above l.v l.initial.rest)

abbrev pub decreases-loop-s : goal.decreases-loop-s
decreases-loop-s l = length l.rest
