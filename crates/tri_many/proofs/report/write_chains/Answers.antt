-- The report is what must not vanish, the chains and the last line.
use Rattle.std.proofs.Common.{refl, string_bytes, ap, ◌∙◌, subst}
use Rattle.std.specs.Arc.{arc_value}
use Rattle.std.specs.Io.KnownBytes.{Appends}
use Rattle.case_tree.specs.Systems.{CaseSystem}
use Rattle.tri_many.specs.Answers.{answer_in}
use Rattle.tri_many.proofs.Endings.{stopped_of_end}
use Rattle.tri_many.proofs.Reports.{chains_of_report, end_of_report, front_cut, front_of_system, if_err, nothing_of_report, whole_report}
use Rattle.tri_many.proofs.report.write_chains.Goals as goal

pub returns-in_default-clause-cut : goal.returns-in_default-clause-cut
returns-in_default-clause-cut g c = (refl, nothing_of_report (arc_value c.args.watched).system.names (arc_value c.args.watched).system.nonzero (answer_in (arc_value c.args.watched) c.args.command.now.steps) (g.K.Sink.taken c.args.sink.now))

pub returns-in_default-nonzero_lines-clause-cut : goal.returns-in_default-nonzero_lines-clause-cut
returns-in_default-nonzero_lines-clause-cut g c = (refl, nothing_of_report (arc_value c.args.watched).system.names (arc_value c.args.watched).system.nonzero (answer_in (arc_value c.args.watched) c.args.command.now.steps) (g.K.Sink.taken c.args.sink.now))

pub returns-in_err-put-clause-cut : goal.returns-in_err-put-clause-cut
returns-in_err-put-clause-cut g c =
    let shared = arc_value c.args.watched in
    let is = front_of_system _ _ _ c.in-Ok-nonzero_lines.ensures (c.system.ensures ∙ ap (λ (w : CaseSystem). w.system) (c.behind-held.view_is ∙ c.deref.ensures ∙ c.in-Ok.ensures)) in
    if_err _ _ _ c.from_residual.ensures.1
    (front_cut shared.system.names shared.system.nonzero (answer_in shared c.args.command.now.steps) _ _ _ _ _ (string_bytes c.in-Ok-nonzero_lines.front) c.in_err-put.ensures.fault c.in_err-put.ensures.cause is c.in_err-put.ensures.part)

pub returns-in_err-count-clause-cut : goal.returns-in_err-count-clause-cut
returns-in_err-count-clause-cut g c =
    let shared = arc_value c.args.watched in
    let is = front_of_system _ _ _ c.in-Ok-nonzero_lines.ensures (c.system.ensures ∙ ap (λ (w : CaseSystem). w.system) (c.behind-held.view_is ∙ c.deref.ensures ∙ c.in-Ok.ensures)) in
    let front = subst (Appends (g.K.Sink.taken c.args.sink.now) (g.K.Sink.taken c.put.new.sink)) is c.in_ok-put.ensures.whole in
    if_err _ _ _ c.from_residual-in_err-count.ensures.1
    (chains_of_report shared.system.names shared.system.nonzero (answer_in shared c.args.command.now.steps) _ _ front _ _ c.in_ok-put.ensures.kept _ _ _ c.in_err-count.ensures.cut)

pub returns-in_err-write_end-clause-cut : goal.returns-in_err-write_end-clause-cut
returns-in_err-write_end-clause-cut g c =
    let shared = arc_value c.args.watched in
    let is = front_of_system _ _ _ c.in-Ok-nonzero_lines.ensures (c.system.ensures ∙ ap (λ (w : CaseSystem). w.system) (c.behind-held.view_is ∙ c.deref.ensures ∙ c.in-Ok.ensures)) in
    let front = subst (Appends (g.K.Sink.taken c.args.sink.now) (g.K.Sink.taken c.put.new.sink)) is c.in_ok-put.ensures.whole in
    if_err _ _ _ c.from_residual-in_err-write_end.ensures.1
    (end_of_report shared.system.names shared.system.nonzero (answer_in shared c.args.command.now.steps) _ _ front _ _ c.in_ok-put.ensures.kept _ c.in_ok-count.count c.in_ok-count.end c.in_ok-count.ensures.printed _ _ _ _ c.in_ok-count.ensures.kept c.in_err-write_end.ensures.cut)

pub returns-clause-written : goal.returns-clause-written
returns-clause-written g c =
    let shared = arc_value c.args.watched in
    let is = front_of_system _ _ _ c.in-Ok-nonzero_lines.ensures (c.system.ensures ∙ ap (λ (w : CaseSystem). w.system) (c.behind-held.view_is ∙ c.deref.ensures ∙ c.in-Ok.ensures)) in
    let front = subst (Appends (g.K.Sink.taken c.args.sink.now) (g.K.Sink.taken c.put.new.sink)) is c.in_ok-put.ensures.whole in (
      whole_report shared.system.names shared.system.nonzero (answer_in shared c.args.command.now.steps) _ _ front _ _ c.in_ok-put.ensures.kept _ c.in_ok-count.count c.in_ok-count.end c.in_ok-count.ensures.printed _ c.in_ok-write_end.ensures.whole,
      c.is_stopped.ensures ∙ stopped_of_end _ _ c.in_ok-count.ensures.printed.ended,
    )
