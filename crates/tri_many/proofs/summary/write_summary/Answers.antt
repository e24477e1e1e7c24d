-- Without memory for the counts nothing was written.
use Rattle.std.specs.Arc.{arc_value}
use Rattle.report_text.specs.Answers.{summary_text}
use Rattle.tri_many.specs.Answers.{answer_in}
use Rattle.tri_many.proofs.Reports.{if_err, nothing_of_summary, starved}
use Rattle.tri_many.proofs.summary.write_summary.Goals as goal

pub returns-in_err-counter-clause-cut : goal.returns-in_err-counter-clause-cut
returns-in_err-counter-clause-cut g c =
    let answer = answer_in (arc_value c.args.watched) c.args.command.now.steps in
    let old = g.K.Sink.taken c.args.sink.now in
    if_err _ _ _ c.from_residual.ensures.1 (starved (summary_text c.args.k answer) (g.K.Sink.faults c.args.sink.now) old c.in_err-counter.field-0.0 c.in_err-counter.ensures.memory (nothing_of_summary c.args.k answer old))
