-- By the sum behind the word.
use Rattle.report_text.proofs.NonzeroLines.{printed_nonzero_lines_are_spelled}
use Rattle.report_text.proofs.laws.printed_nonzero_lines_are_spelled.Goals as goal

pub returns : goal.returns
returns c = printed_nonzero_lines_are_spelled
