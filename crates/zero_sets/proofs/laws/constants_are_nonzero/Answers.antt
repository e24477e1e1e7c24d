-- A residue with an inverse is not 0 in the ring of the tables.
use Rattle.zero_sets.proofs.ValueLaws.{value_at-constant_of}
use Rattle.zero_sets.proofs.laws.constants_are_nonzero.Goals as goal

pub returns : goal.returns
returns c = λ p n a r xs prime finite point positive below. value_at-constant_of p r finite xs point n a prime positive below
