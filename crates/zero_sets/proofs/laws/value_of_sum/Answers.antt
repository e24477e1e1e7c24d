-- The value in the ring of the tables is additive.
use Rattle.zero_sets.proofs.ValueLaws.{value_at-sum_of}
use Rattle.zero_sets.proofs.laws.value_of_sum.Goals as goal

pub returns : goal.returns
returns c = λ p r xs f g finite point. value_at-sum_of p r finite xs point f g
