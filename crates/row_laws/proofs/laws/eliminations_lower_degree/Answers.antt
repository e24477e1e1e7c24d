-- The two multiples have the same lead.
use Rattle.row_laws.proofs.DegreeLaws.{eliminations_lower_degree}
use Rattle.row_laws.proofs.laws.eliminations_lower_degree.Goals as goal

pub returns : goal.returns
returns c = eliminations_lower_degree
