-- The law of values in any ring, at the ring of the tables.
use Rattle.zero_sets.proofs.LeadValues.{value_of_lead_and_tail}
use Rattle.zero_sets.proofs.laws.value_of_lead_and_tail.Goals as goal

pub returns : goal.returns
returns c = value_of_lead_and_tail
