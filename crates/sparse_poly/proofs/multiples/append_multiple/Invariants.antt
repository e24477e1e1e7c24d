-- What was made and what is to come are the whole.
use Rattle.std.proofs.Common.{◌≡◌, ◌++◌, map, drop}
use Rattle.sparse_poly.proofs.Products.{reduced_product}
use Rattle.sparse_poly.proofs.multiples.append_multiple.Given as goal

abbrev pub invariant-loop-x : goal.invariant-loop-x
invariant-loop-x l = l.out.items ++ map (reduced_product l.fn.f l.fn.t) (drop l.x-index l.a) ≡ l.fn.out.items ++ map (reduced_product l.fn.f l.fn.t) l.a
