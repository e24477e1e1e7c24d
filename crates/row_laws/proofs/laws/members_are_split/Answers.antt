-- The member for the lesser variable stands among those below the greater.
use Rattle.row_laws.proofs.Members.{members_are_split}
use Rattle.row_laws.proofs.laws.members_are_split.Goals as goal

pub returns : goal.returns
returns c = members_are_split
