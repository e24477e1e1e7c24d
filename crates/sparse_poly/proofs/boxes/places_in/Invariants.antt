-- The places so far.
use Rattle.std.proofs.Common.{◌≡◌, ◌++◌, map, drop}
use Rattle.sparse_poly.specs.Boxes.{placed}
use Rattle.sparse_poly.proofs.boxes.places_in.Given as goal

abbrev pub invariant-loop-u : goal.invariant-loop-u
invariant-loop-u l = l.places.items ++ map (placed l.sides) (drop l.u-index l.terms) ≡ map (placed l.sides) l.terms
