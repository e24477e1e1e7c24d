-- The path has the numbers so far.
use Rattle.std.proofs.Common.{◌≡◌, take}
use Rattle.work_pool.proofs.walk.path_with.Given as goal

abbrev pub invariant-loop-number : goal.invariant-loop-number
invariant-loop-number l = l.path ≡ take l.number-index l.numbers
