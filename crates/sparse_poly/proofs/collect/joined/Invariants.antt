-- What was joined, and what the open term and the terms to come are collected to, are the whole.
use Rattle.std.proofs.Common.{drop}
use Rattle.mono_words.specs.declared.mono.TheConstants.{VARS}
use Rattle.polynomials.specs.Polynomials.{collected}
use Rattle.sparse_poly.proofs.JoinTurns.{Joining}
use Rattle.sparse_poly.proofs.collect.joined.Given as goal

abbrev pub invariant-loop-t : goal.invariant-loop-t
invariant-loop-t l = Joining l.fn.f VARS (collected l.fn.f l.sorted) l.out.items l.monomial l.sum (drop l.t-index l.rest)
