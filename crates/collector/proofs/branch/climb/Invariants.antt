-- What comes later is the same, however many levels were left.
use Rattle.std.proofs.Common.{◌≡◌, ◌≤◌, [], length, vec_len, vec_capacity}
use Rattle.std.specs.List.{AllByRecursion}
use Rattle.collector.specs.Branches.{later_below}
use Rattle.collector.proofs.branch.climb.Given as goal

abbrev pub invariant-loop-number : goal.invariant-loop-number
invariant-loop-number l = record {
  same : length l.numbers.items ≡ length l.counts.items;
  numbers : AllByRecursion (λ i. 1 ≤ i) l.numbers.items;
  later : later_below [] l.fn.numbers.items l.fn.counts.items ≡ later_below [] l.numbers.items l.counts.items;
  room_numbers : vec_capacity l.numbers ≡ vec_capacity l.fn.numbers;
  room_counts : vec_capacity l.counts ≡ vec_capacity l.fn.counts;
}

abbrev pub decreases-loop-number : goal.decreases-loop-number
decreases-loop-number l = vec_len l.numbers
