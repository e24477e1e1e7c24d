-- The coefficient at the sum of the degrees is the product of the leads, which isn't 0.
use Rattle.polynomials.proofs.DegreesOfProducts.{degree_of_product}
use Rattle.polynomials.proofs.laws.degree_of_product.Goals as goal

pub returns : goal.returns
returns c = degree_of_product
