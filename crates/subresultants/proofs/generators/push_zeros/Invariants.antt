-- So many zeros were added.
use Rattle.std.proofs.Common.{◌≡◌, [], ◌++◌, replicate}
use Rattle.subresultants.proofs.generators.push_zeros.Given as goal

abbrev pub invariant-loop : goal.invariant-loop
invariant-loop l = l.list ≡ l.initial.list ++ replicate l.counter []
