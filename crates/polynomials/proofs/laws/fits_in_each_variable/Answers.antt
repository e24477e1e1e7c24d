-- The product of the lists of degrees has the sum of the degrees in each variable.
use Rattle.polynomials.proofs.FitsLemmas.{fits_in_each_variable}
use Rattle.polynomials.proofs.laws.fits_in_each_variable.Goals as goal

pub returns : goal.returns
returns c = fits_in_each_variable
