-- What holds of each holds of some.
use Rattle.row_laws.proofs.Members.{points_at_members}
use Rattle.row_laws.proofs.laws.points_at_members.Goals as goal

pub returns : goal.returns
returns c = points_at_members
