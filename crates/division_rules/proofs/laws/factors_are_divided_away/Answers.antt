-- Each division gives one member of the product.
use Rattle.division_rules.proofs.ListStatements.{factors_are_divided_away}
use Rattle.division_rules.proofs.laws.factors_are_divided_away.Goals as goal

pub returns : goal.returns
returns c = factors_are_divided_away
