-- The place in the box of the variables from v on.
use Rattle.std.proofs.Common.{◌≡◌, ◌≤◌, length, drop}
use Rattle.sparse_poly.specs.Boxes.{place_of}
use Rattle.sparse_poly.proofs.boxes.place.Given as goal

abbrev pub invariant-loop-v : goal.invariant-loop-v
invariant-loop-v l = record {
  inside : l.v ≤ length l.sides;
  place : l.place ≡ place_of (drop l.v l.sides) (drop l.v l.m);
}
