-- The exponents below v were 0, and are the last below their sides.
use Rattle.std.proofs.Common.{◌≡◌, ◌+◌, ℕ}
use Rattle.mono_words.specs.declared.mono.TheConstants.{VARS}
use Rattle.sparse_poly.specs.Boxes.{monomial_of_place}
use Rattle.sparse_poly.proofs.BoxMonomials.{counted}
use Rattle.sparse_poly.proofs.boxes.before.Given as goal

abbrev pub invariant-loop-v : goal.invariant-loop-v
invariant-loop-v l = (k : ℕ) → l.fn.m ≡ monomial_of_place VARS l.sides (k + 1) → l.m ≡ counted l.v VARS l.sides k
