-- The law of the list of coefficients.
use Rattle.recursive_poly.proofs.ListPolynomials.{each_list_has_a_polynomial}
use Rattle.recursive_poly.proofs.laws.each_list_has_a_polynomial.Goals as goal

pub returns : goal.returns
returns c = each_list_has_a_polynomial
