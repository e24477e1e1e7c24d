-- The eliminations go on until the degree is less.
use Rattle.row_laws.proofs.DegreeLaws.{remainders_have_less_degree}
use Rattle.row_laws.proofs.laws.remainders_have_less_degree.Goals as goal

pub returns : goal.returns
returns c = remainders_have_less_degree
