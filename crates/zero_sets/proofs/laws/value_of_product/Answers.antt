-- The value in the ring of the tables is multiplicative.
use Rattle.zero_sets.proofs.ValueLaws.{value_at-product_of}
use Rattle.zero_sets.proofs.laws.value_of_product.Goals as goal

pub returns : goal.returns
returns c = λ p r xs f g finite point. value_at-product_of p r finite xs point f g
