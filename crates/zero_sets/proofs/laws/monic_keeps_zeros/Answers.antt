-- The monic form is a multiple by an inverse.
use Rattle.zero_sets.proofs.ValueLaws.{value_at-monic}
use Rattle.zero_sets.proofs.laws.monic_keeps_zeros.Goals as goal

pub returns : goal.returns
returns c = λ p n r xs f prime finite point i. value_at-monic p r finite xs point n f prime i
