-- The last pseudo-remainder is the pseudo-remainder, once one was made.
use Rattle.std.proofs.Common.{◌≡◌, ◌<◌}
use Rattle.division_rules.specs.Within.{pseudo_remainder_within}
use Rattle.pseudo_division.specs.FieldOperations.{operations}
use Rattle.arithmetic_bench.proofs.operations.last_remainder.Given as goal

abbrev pub invariant-loop : goal.invariant-loop
invariant-loop l =
    0 < l.counter
    → l.last ≡ pseudo_remainder_within (operations l.work.field) l.work.width l.v l.f l.g
