-- What the printer left is what the sink took.
use Rattle.std.proofs.Common.{rules}
use Rattle.std.specs.Arc.{arc_value}
use Rattle.tri_many.specs.Answers.{answer_in, ending_text}
use Rattle.tri_many.proofs.Reports.{SinkIsCut, sink_is_cut}
use Rattle.tri_many.proofs.report.print_chains.Goals as goal

pub returns-in-Err-clause-cut : goal.returns-in-Err-clause-cut
returns-in-Err-clause-cut g c =
    let text = ending_text (arc_value c.args.watched).system.names (answer_in (arc_value c.args.watched) c.args.command.now.steps) in
    let cut : SinkIsCut g.K.Sink.taken g.K.Sink.faults text c.new-printer.result.sink.now c.take_all.new.self.sink.now c.in-Err.fault = record { cut = c.in-Err.ensures.cut } in
    sink_is_cut g.K.Sink.taken g.K.Sink.faults text c.args.sink.now _ c.in-Err.fault (search rules)
