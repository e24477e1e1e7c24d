-- What was taken away and what is left make the whole.
use Rattle.zero_sets.proofs.ValueLaws.{value_at-difference_of}
use Rattle.zero_sets.proofs.laws.value_of_difference.Goals as goal

pub returns : goal.returns
returns c = λ p n r xs f g finite point i. value_at-difference_of p r finite xs point n f g i
