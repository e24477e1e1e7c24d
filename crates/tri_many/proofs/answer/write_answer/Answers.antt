-- The text of the answer was written, or a part of it.
use Rattle.std.specs.Arc.{arc_value}
use Rattle.tri_many.proofs.Answered.{answered_writes, starved_writes}
use Rattle.tri_many.proofs.answer.write_answer.Goals as goal

pub returns-in_default-clause-writes : goal.returns-in_default-clause-writes
returns-in_default-clause-writes g c = starved_writes c.args.command.now c.args.cases.system _ _

pub returns-in_default-new-clause-writes : goal.returns-in_default-new-clause-writes
returns-in_default-new-clause-writes g c = starved_writes c.args.command.now c.args.cases.system _ _

pub returns-clause-writes : goal.returns-clause-writes
returns-clause-writes g c = answered_writes c.args.command.now c.args.cases (arc_value c.in-Ok-new.watched) _ _ _ _ c.write_text.result c.status_of.result c.in-Ok-new.ensures.ok c.requires.width c.write_text.ensures.written c.write_text.ensures.cut c.status_of.ensures
