-- The pairs so far, and the products to come.
use Rattle.std.proofs.Common.{◌≡◌, ◌++◌, map, drop}
use Rattle.polynomials.specs.Polynomials.{term_product}
use Rattle.sparse_poly.specs.Keys.{term_at, pair_term, ArePairs}
use Rattle.sparse_poly.proofs.keys.append_row.Given as goal

abbrev pub invariant-loop-j : goal.invariant-loop-j
invariant-loop-j l = record {
  pairs : ArePairs l.sides l.short l.long l.pairs.items;
  terms :
      map (pair_term l.short l.long) l.pairs.items ++ map (term_product (term_at l.short l.i)) (drop l.j l.long)
      ≡ map (pair_term l.short l.long) l.fn.pairs.items ++ map (term_product (term_at l.short l.i)) l.long;
}
