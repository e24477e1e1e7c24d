-- Those below it are triangular, and reduce what all reduce.
use Rattle.row_laws.proofs.Members.{members_start_remainder_rows}
use Rattle.row_laws.proofs.laws.members_start_remainder_rows.Goals as goal

pub returns : goal.returns
returns c = members_start_remainder_rows
