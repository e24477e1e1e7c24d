-- By definition.
use Rattle.division_rules.proofs.ListStatements.{no_quotient_by_zero}
use Rattle.division_rules.proofs.laws.no_quotient_by_zero.Goals as goal

pub returns : goal.returns
returns c = no_quotient_by_zero
