-- The pairs so far, and the products to come.
use Rattle.std.proofs.Common.{◌≡◌, ◌++◌, map, drop}
use Rattle.polynomials.specs.Polynomials.{term_products}
use Rattle.sparse_poly.specs.Keys.{pair_term, ArePairs}
use Rattle.sparse_poly.proofs.keys.pairs_of.Given as goal

abbrev pub invariant-loop-i : goal.invariant-loop-i
invariant-loop-i l = record {
  pairs : ArePairs l.sides l.short l.long l.pairs.items;
  terms : map (pair_term l.short l.long) l.pairs.items ++ term_products (drop l.i l.short) l.long ≡ term_products l.short l.long;
}
