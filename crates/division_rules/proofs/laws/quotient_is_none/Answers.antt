-- Each factor that fits would be found.
use Rattle.division_rules.proofs.ListStatements.{quotient_is_none}
use Rattle.division_rules.proofs.laws.quotient_is_none.Goals as goal

pub returns : goal.returns
returns c = quotient_is_none
