-- The division finds each factor that fits, and its test lets no other through.
use Rattle.division_rules.proofs.ListStatements.{quotient_is_exact}
use Rattle.division_rules.proofs.laws.quotient_is_exact.Goals as goal

pub returns : goal.returns
returns c = quotient_is_exact
