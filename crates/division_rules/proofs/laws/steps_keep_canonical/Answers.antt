-- They are the first parts of the same steps on canonical polynomials.
use Rattle.division_rules.proofs.ListStatements.{steps_keep_canonical}
use Rattle.division_rules.proofs.laws.steps_keep_canonical.Goals as goal

pub returns : goal.returns
returns c = steps_keep_canonical
