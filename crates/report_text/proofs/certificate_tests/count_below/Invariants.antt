-- Those that were counted and those to come are all.
use Rattle.std.proofs.Common.{◌≡◌, ◌+◌, ◌≤◌, length, drop}
use Rattle.zero_sets.specs.ZeroSets.{members_below}
use Rattle.report_text.proofs.certificate_tests.count_below.Given as goal

abbrev pub invariant-loop-i : goal.invariant-loop-i
invariant-loop-i l =
    (l.count + length (members_below l.v (drop l.i l.chain)) ≡ length (members_below l.v l.chain)) × (l.count ≤ l.i)
