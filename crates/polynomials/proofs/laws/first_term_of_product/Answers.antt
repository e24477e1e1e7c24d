-- The first terms' product is above all other products of terms.
use Rattle.polynomials.proofs.FirstTerms.{first_term_of_product}
use Rattle.polynomials.proofs.laws.first_term_of_product.Goals as goal

pub returns : goal.returns
returns c = first_term_of_product
