-- By the syntax tree of the polynomial.
use Rattle.report_text.proofs.Spelling.{printed_polynomials_are_spelled}
use Rattle.report_text.proofs.laws.printed_polynomials_are_spelled.Goals as goal

pub returns : goal.returns
returns c = printed_polynomials_are_spelled
