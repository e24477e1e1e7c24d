-- Each step is made of differences of multiples, and a quotient by what isn't 0 can be taken back.
use Rattle.row_laws.proofs.CombinationRows.{combinations_are_kept}
use Rattle.row_laws.proofs.laws.combinations_are_kept.Goals as goal

pub returns : goal.returns
returns c = combinations_are_kept
