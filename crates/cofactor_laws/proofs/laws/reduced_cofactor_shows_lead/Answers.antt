-- Each coefficient of what reduces to 0 is zero there, and so is the lead.
use Rattle.cofactor_laws.proofs.ReducedCofactors.{reduced_cofactor_shows_lead}
use Rattle.cofactor_laws.proofs.laws.reduced_cofactor_shows_lead.Goals as goal

pub returns : goal.returns
returns c = reduced_cofactor_shows_lead
