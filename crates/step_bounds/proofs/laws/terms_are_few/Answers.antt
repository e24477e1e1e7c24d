-- Polynomials of low degree have few terms.
use Rattle.step_bounds.proofs.FewTerms.{terms_are_few}
use Rattle.step_bounds.proofs.laws.terms_are_few.Goals as goal

pub returns : goal.returns
returns c = terms_are_few
