-- What the sums from k on hold, and the monomial of the place k.
use Rattle.std.proofs.Common.{◌≡◌, drop}
use Rattle.mono_words.specs.declared.mono.TheConstants.{VARS}
use Rattle.sparse_poly.specs.Boxes.{monomial_of_place, boxed, from_slots}
use Rattle.sparse_poly.proofs.boxes.from_sums.Given as goal

abbrev pub invariant-loop-k : goal.invariant-loop-k
invariant-loop-k l = record {
  monomial : l.monomial ≡ monomial_of_place VARS l.sides l.k;
  made : l.out.items ≡ from_slots l.fn.f (drop l.k (boxed VARS l.sides 0 l.sums));
}
