-- The counts so far, and those of what is to come, are the counts of the whole.
use Rattle.std.proofs.Common.{◌≡◌, None}
use Rattle.split_paths.specs.Answer.{answer_of}
use Rattle.split_paths.specs.Tree.{events_of, events_to_come}
use Rattle.generators.specs.Turns.{AreLawful, turns_to_come}
use Rattle.solver_reports.specs.Growth.{events_counted}
use Rattle.solver_reports.specs.Walks.{counts_of}
use Rattle.solver_reports.proofs.tree.count.Given as goal

abbrev pub invariant-loop-event : goal.invariant-loop-event
invariant-loop-event g l =
    let step = g.X.Splitter.step l.splitter in
    AreLawful (g.X.Splitter.lawful_task l.splitter) l.generator
    × (events_counted l.tally (events_to_come step l.generator) ≡ counts_of (answer_of (events_of step l.fn.root)))
    × (l.tally.stop ≡ None)

abbrev pub decreases-loop-event : goal.decreases-loop-event
decreases-loop-event g l = turns_to_come (g.X.Splitter.step l.splitter) l.generator
