-- What stands after the spaces decides.
use Rattle.std.proofs.Common.{Some, None}
use Rattle.system_parser.proofs.SkippedLines.{skipped_by_first}
use Rattle.system_parser.proofs.text.is_skipped.Goals as goal

pub returns-in-None : goal.returns-in-None
returns-in-None c = skipped_by_first c.leading_spaces.result c.args.line.now c.without_first.result.now None c.leading_spaces.ensures.count c.without_first.ensures c.in-None.ensures.value

pub returns-in-Some : goal.returns-in-Some
returns-in-Some c = skipped_by_first c.leading_spaces.result c.args.line.now c.without_first.result.now (Some c.in-Some.b.now) c.leading_spaces.ensures.count c.without_first.ensures c.in-Some.ensures.value
