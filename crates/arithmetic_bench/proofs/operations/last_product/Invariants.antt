-- The last product is the product, once one was made.
use Rattle.std.proofs.Common.{◌≡◌, ◌<◌, ◌↔◌, false, IsNone, IfSome}
use Rattle.polynomials.specs.Polynomials.{Polynomial, product_of}
use Rattle.polynomials.specs.Fits.{fits}
use Rattle.arithmetic_bench.proofs.operations.last_product.Given as goal

abbrev pub invariant-loop : goal.invariant-loop
invariant-loop l = record {
  none : 0 < l.counter → IsNone l.last ↔ (fits l.work.width l.left l.right ≡ false);
  product : 0 < l.counter
      → IfSome l.last (λ (g : Polynomial). g ≡ product_of l.work.field l.left l.right);
}
