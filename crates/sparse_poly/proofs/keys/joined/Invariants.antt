-- What was joined, and what the open pair and the pairs to come are collected to, are the whole.
use Rattle.std.proofs.Common.{map, drop}
use Rattle.mono_words.specs.declared.mono.TheConstants.{VARS}
use Rattle.polynomials.specs.Polynomials.{collected}
use Rattle.sparse_poly.specs.Keys.{pair_term, reduced_pair, IsPair}
use Rattle.sparse_poly.proofs.JoinTurns.{Joining}
use Rattle.sparse_poly.proofs.keys.joined.Given as goal

abbrev pub invariant-loop-pair : goal.invariant-loop-pair
invariant-loop-pair l = record {
  open_is : IsPair l.sides l.short l.long l.open;
  joining :
      Joining l.fn.f VARS (collected l.fn.f (map (reduced_pair l.fn.f l.short l.long) l.pairs)) l.out.items (pair_term l.short l.long l.open).0 l.sum
      (drop l.pair-index (map (reduced_pair l.fn.f l.short l.long) l.rest));
}
