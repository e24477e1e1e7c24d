-- Each product within a width is the product.
use Rattle.division_rules.proofs.ListStatements.{within_is_unlimited}
use Rattle.division_rules.proofs.laws.within_is_unlimited.Goals as goal

pub returns : goal.returns
returns c = within_is_unlimited
