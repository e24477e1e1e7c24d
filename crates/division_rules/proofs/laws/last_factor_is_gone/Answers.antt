-- Each division lowers the sum of the degrees, so the bound on divisions is enough.
use Rattle.division_rules.proofs.ListStatements.{last_factor_is_gone}
use Rattle.division_rules.proofs.laws.last_factor_is_gone.Goals as goal

pub returns : goal.returns
returns c = last_factor_is_gone
