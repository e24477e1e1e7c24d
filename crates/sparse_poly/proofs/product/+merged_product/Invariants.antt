-- The parts are shorter.
use Rattle.std.proofs.Common.{length}
use Rattle.sparse_poly.proofs.product.+merged_product.Given as goal

abbrev pub decreases-merged_product : goal.decreases-merged_product
decreases-merged_product l = length l.short.now
