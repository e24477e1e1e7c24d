-- The leads before a place are those that were added by then.
use Rattle.impose_rules.proofs.CaseNumbers.{lead_cases_are_the_unknown}
use Rattle.impose_rules.proofs.laws.lead_cases_are_the_unknown.Goals as goal

pub returns : goal.returns
returns c = lead_cases_are_the_unknown
