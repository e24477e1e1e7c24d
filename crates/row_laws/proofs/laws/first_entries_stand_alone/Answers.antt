-- Each test looks at first entries alone.
use Rattle.row_laws.proofs.FirstEntries.{first_entries_stand_alone}
use Rattle.row_laws.proofs.laws.first_entries_stand_alone.Goals as goal

pub returns : goal.returns
returns c = first_entries_stand_alone
