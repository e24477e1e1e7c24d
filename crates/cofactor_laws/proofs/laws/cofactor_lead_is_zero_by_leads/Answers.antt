-- The lead is made of initials and leads by products.
use Rattle.cofactor_laws.proofs.ReducedCofactors.{cofactor_lead_is_zero_by_leads}
use Rattle.cofactor_laws.proofs.laws.cofactor_lead_is_zero_by_leads.Goals as goal

pub returns : goal.returns
returns c = cofactor_lead_is_zero_by_leads
