-- The printer writes the chains of the answer.
use Rattle.std.proofs.Common.{ap, string_bytes}
use Rattle.tri_io.specs.Commands.{Options}
use Rattle.tri_many.proofs.Premises.{answer_with, chains_are_printable, root_is_lawful}
use Rattle.tri_many.proofs.Printers.{printable_in, printer_printed, printer_starved, printer_failed, printer_kept, printer_same, printer_cut_same}
use Rattle.tri_many.proofs.printer.Printer.take_all.Goals as goal

pub pool_run-requires-clause-lawful : goal.pool_run-requires-clause-lawful
pool_run-requires-clause-lawful g c lifetimes outlives = root_is_lawful _ c.args.root c.requires.root

pub pool_run-requires-clause-may : goal.pool_run-requires-clause-may
pool_run-requires-clause-may g c lifetimes outlives = printable_in string_bytes c.args.self.now.names.now _ _ c.requires.names (chains_are_printable _ c.args.root c.requires.root c.command.inside.steps)

pub returns-in-Ok-clause-same : goal.returns-in-Ok-clause-same
returns-in-Ok-clause-same g c = printer_same g.K.Sink.taken g.K.Sink.faults _ _ _ c.in-Ok.ensures.took

pub returns-in-Ok-clause-printed : goal.returns-in-Ok-clause-printed
returns-in-Ok-clause-printed g c =
    let steps = ap (λ (o : Options). o.steps) c.command.view_is in
    printer_printed g.K.Sink.taken g.K.Sink.faults _ _ (answer_with _ c.args.root c.requires.root _ _ steps) _ _ _ c.requires.names c.in-Ok.end c.in-Ok.ensures.took c.in-Ok.ensures.end c.requires.none

pub returns-in-Ok-clause-kept : goal.returns-in-Ok-clause-kept
returns-in-Ok-clause-kept g c = printer_kept g.K.Sink.taken g.K.Sink.faults _ _ _ c.in-Ok.ensures.took

pub returns-in-Err-Memory-clause-same : goal.returns-in-Err-Memory-clause-same
returns-in-Err-Memory-clause-same g c = printer_cut_same g.K.Sink.taken g.K.Sink.faults _ _ _ _ c.in-Err-Memory.ensures.cut

pub returns-in-Err-Memory-clause-cut : goal.returns-in-Err-Memory-clause-cut
returns-in-Err-Memory-clause-cut g c =
    let steps = ap (λ (o : Options). o.steps) c.command.view_is in
    printer_starved g.K.Sink.taken g.K.Sink.faults _ _ (answer_with _ c.args.root c.requires.root _ _ steps) _ _ _ c.requires.names _ c.in-Err-Memory.field-0-is c.in-Err-Memory.ensures.cut

pub returns-in-Err-Each-clause-same : goal.returns-in-Err-Each-clause-same
returns-in-Err-Each-clause-same g c = printer_cut_same g.K.Sink.taken g.K.Sink.faults _ _ _ _ c.in-Err-Each.ensures.cut

pub returns-in-Err-Each-clause-cut : goal.returns-in-Err-Each-clause-cut
returns-in-Err-Each-clause-cut g c =
    let steps = ap (λ (o : Options). o.steps) c.command.view_is in
    printer_failed g.K.Sink.taken g.K.Sink.faults _ _ (answer_with _ c.args.root c.requires.root _ _ steps) _ _ _ c.requires.names _ c.in-Err-Each.fault c.in-Err-Each.field-0-is c.in-Err-Each.ensures.cut
