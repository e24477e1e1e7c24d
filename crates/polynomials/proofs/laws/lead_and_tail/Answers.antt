-- The terms at the power and the others have the sum of all terms.
use Rattle.polynomials.proofs.LeadAndTail.{lead_and_tail}
use Rattle.polynomials.proofs.laws.lead_and_tail.Goals as goal

pub returns : goal.returns
returns c = lead_and_tail
