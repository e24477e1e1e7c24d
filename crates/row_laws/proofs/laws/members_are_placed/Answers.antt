-- Main variables increase, so the first that is not less is the one.
use Rattle.row_laws.proofs.Members.{members_are_placed}
use Rattle.row_laws.proofs.laws.members_are_placed.Goals as goal

pub returns : goal.returns
returns c = members_are_placed
