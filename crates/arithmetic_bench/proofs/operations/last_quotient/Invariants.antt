-- The last quotient is the quotient, once one was made.
use Rattle.std.proofs.Common.{◌≡◌, ◌<◌}
use Rattle.division_rules.specs.Quotients.{quotient_within}
use Rattle.arithmetic_bench.proofs.operations.last_quotient.Given as goal

abbrev pub invariant-loop : goal.invariant-loop
invariant-loop l =
    0 < l.counter → l.last ≡ quotient_within l.work.field l.work.width l.product l.right
