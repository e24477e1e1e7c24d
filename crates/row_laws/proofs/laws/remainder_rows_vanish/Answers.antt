-- Each row is made of the two before it; a division by beta needs that beta isn't zero.
use Rattle.row_laws.proofs.VanishingRows.{remainder_rows_vanish}
use Rattle.row_laws.proofs.laws.remainder_rows_vanish.Goals as goal

pub returns : goal.returns
returns c = remainder_rows_vanish
