-- The product is there where exponents fit.
use Rattle.system_parser.proofs.RaisedMonomials.{fitting, not_fitting}
use Rattle.system_parser.proofs.powers.monomial_product.Goals as goal

pub returns-then-fits : goal.returns-then-fits
returns-then-fits c = fitting c.args.a c.args.b c.product.result (c.fits.ensures.0 c.if-fits.true) c.product.ensures

pub returns-else-fits : goal.returns-else-fits
returns-else-fits c = not_fitting c.args.a c.args.b (λ h. let fits = c.fits.ensures.1 h in cc)
