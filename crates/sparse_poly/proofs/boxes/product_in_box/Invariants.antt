-- The products of the terms so far are in their sums, and the others are to come.
use Rattle.std.proofs.Common.{◌*◌, ◌^◌, ◌++◌, length, drop}
use Rattle.mono_words.specs.declared.mono.TheConstants.{VARS}
use Rattle.polynomials.specs.Polynomials.{term_products}
use Rattle.polynomials.proofs.SamePolynomials.{SameSums}
use Rattle.sparse_poly.specs.Boxes.{boxed, AreSums}
use Rattle.sparse_poly.proofs.boxes.product_in_box.Given as goal

abbrev pub invariant-loop-i : goal.invariant-loop-i
invariant-loop-i l = record {
  bounds : AreSums l.sides (l.i * (length l.long * 2 ^ 32)) l.sums.items;
  sums :
      SameSums l.fn.f (boxed VARS l.sides 0 l.sums.items ++ term_products (drop l.i l.short) l.long)
      (term_products l.short l.long);
}
