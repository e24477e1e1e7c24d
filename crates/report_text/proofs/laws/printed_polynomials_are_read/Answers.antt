-- It is spelled, so it is read.
use Rattle.report_text.specs.Polynomials.{poly_text}
use Rattle.report_text.proofs.Spelling.{printed_polynomials_are_spelled}
use Rattle.report_text.proofs.laws.printed_polynomials_are_read.Goals as goal

pub returns : goal.returns
returns c = λ s f h. (c.spelled_sums_are_read.ensures s (poly_text s.names f) f h.many).1 (printed_polynomials_are_spelled s f h)
