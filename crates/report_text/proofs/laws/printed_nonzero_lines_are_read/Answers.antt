-- It is spelled, so it is read.
use Rattle.std.proofs.Common.{◌++◌}
use Rattle.std.specs.Prelude.{codes}
use Rattle.report_text.specs.Polynomials.{poly_text}
use Rattle.report_text.proofs.NonzeroLines.{printed_nonzero_lines_are_spelled}
use Rattle.report_text.proofs.laws.printed_nonzero_lines_are_read.Goals as goal

pub returns : goal.returns
returns c = λ s f h. (c.spelled_nonzero_lines_are_read.ensures s (codes "nonzero " ++ poly_text s.names f) f h.many).1 (printed_nonzero_lines_are_spelled s f h)
