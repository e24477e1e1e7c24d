-- The report so far, and that of what is to come, are the whole report.
use Rattle.std.proofs.Common.{◌≡◌, map, string_bytes}
use Rattle.split_paths.specs.Answer.{answer_of}
use Rattle.split_paths.specs.Tree.{events_of, events_to_come}
use Rattle.generators.specs.Turns.{AreLawful, turns_to_come}
use Rattle.report_text.specs.Answers.{answer_text, is_stopped}
use Rattle.solver_reports.specs.Growth.{report_behind, stops}
use Rattle.solver_reports.proofs.tree.walk.Given as goal

abbrev pub invariant-loop-event : goal.invariant-loop-event
invariant-loop-event g l =
    let step = g.X.Splitter.step l.splitter in
    let names = map string_bytes l.names in
    let whole = answer_of (events_of step l.fn.root) in
    AreLawful (g.X.Splitter.lawful_task l.splitter) l.generator
    × (report_behind names l.report (events_to_come step l.generator) ≡ answer_text names l.nonzero whole)
    × (stops (events_to_come step l.generator) ≡ is_stopped whole.stop)

abbrev pub decreases-loop-event : goal.decreases-loop-event
decreases-loop-event g l = turns_to_come (g.X.Splitter.step l.splitter) l.generator
