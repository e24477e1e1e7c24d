-- All tasks that wait are lawful, and each turn leaves one turn fewer.
use Rattle.generators.specs.Turns.{AreLawful, turns_to_come}
use Rattle.work_pool.specs.Samples.{shares}
use Rattle.pool_bench.proofs.walk.walked.Given as goal

abbrev pub invariant-loop-event : goal.invariant-loop-event
invariant-loop-event l = AreLawful (λ task. Unit {0}) l.generator

abbrev pub decreases-loop-event : goal.decreases-loop-event
decreases-loop-event l = turns_to_come (shares l.splitter.wide) l.generator
