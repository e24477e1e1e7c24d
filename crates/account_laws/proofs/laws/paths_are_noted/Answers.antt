use Rattle.account_laws.proofs.Paths.{paths_noted}
use Rattle.account_laws.proofs.laws.paths_are_noted.Goals as goal

pub returns : goal.returns
returns g c = paths_noted
