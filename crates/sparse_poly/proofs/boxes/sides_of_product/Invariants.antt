-- The box of the variables below v.
use Rattle.std.proofs.Common.{◌≡◌, ◌≤◌, ◌<◌, ◌+◌, ◌^◌, ℕ, length, get_or}
use Rattle.polynomials.specs.Monomials.{exponent_of}
use Rattle.sparse_poly.specs.Boxes.{box_size}
use Rattle.sparse_poly.proofs.boxes.sides_of_product.Given as goal

abbrev pub invariant-loop-v : goal.invariant-loop-v
invariant-loop-v l = record {
  variables : length l.sides.items ≡ l.v;
  size : box_size l.sides.items ≡ l.size;
  small : l.size ≤ 2 ^ 62;
  inside : (w : ℕ) → w < l.v → exponent_of w l.a + exponent_of w l.b < get_or l.sides.items w 1;
  narrow : (w : ℕ) → get_or l.sides.items w 1 ≤ 2 ^ 16;
}
