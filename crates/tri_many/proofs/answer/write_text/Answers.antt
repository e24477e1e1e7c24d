-- It is the report, or the summary where the system was made.
use Rattle.std.proofs.Common.{ap, Some, None}
use Rattle.std.specs.Arc.{arc_value}
use Rattle.tri_io.specs.Commands.{Options}
use Rattle.tri_many.proofs.Answered.{cut_of_made}
use Rattle.tri_many.proofs.answer.write_text.Goals as goal

pub returns-in-None-clause-cut : goal.returns-in-None-clause-cut
returns-in-None-clause-cut g c = cut_of_made (arc_value c.args.watched) c.args.command.now.steps _ _ _ _ c.write_chains.result c.args.command.now _ None (ap (λ (o : Options). o.made) c.command.view_is) c.in-None.is c.write_chains.ensures.cut

pub returns-in-Some-clause-cut : goal.returns-in-Some-clause-cut
returns-in-Some-clause-cut g c = cut_of_made (arc_value c.args.watched) c.args.command.now.steps _ _ _ _ c.write_summary.result c.args.command.now _ (Some c.in-Some.k) (ap (λ (o : Options). o.made) c.command.view_is) c.in-Some.is c.write_summary.ensures.cut
