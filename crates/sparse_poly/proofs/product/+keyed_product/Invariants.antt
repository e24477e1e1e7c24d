-- The parts are shorter.
use Rattle.std.proofs.Common.{length}
use Rattle.sparse_poly.proofs.product.+keyed_product.Given as goal

abbrev pub decreases-keyed_product : goal.decreases-keyed_product
decreases-keyed_product l = length l.short.now
