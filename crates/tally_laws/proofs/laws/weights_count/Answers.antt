use Rattle.tally_laws.proofs.Weights.{same_length, same_count}
use Rattle.tally_laws.proofs.laws.weights_count.Goals as goal

pub returns-clause-length : goal.returns-clause-length
returns-clause-length g c = same_length

pub returns-clause-count : goal.returns-clause-count
returns-clause-count g c = same_count
