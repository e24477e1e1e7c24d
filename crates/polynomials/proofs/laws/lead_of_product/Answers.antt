-- It is the coefficient at the sum of the degrees.
use Rattle.polynomials.proofs.DegreesOfProducts.{lead_of_product}
use Rattle.polynomials.proofs.laws.lead_of_product.Goals as goal

pub returns : goal.returns
returns c = lead_of_product
