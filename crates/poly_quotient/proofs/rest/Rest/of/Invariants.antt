-- The places so far are those of the first terms.
use Rattle.std.proofs.Common.{◌≡◌, ◌<◌, All, map, take, length}
use Rattle.sparse_poly.specs.Keys.{term_at}
use Rattle.poly_quotient.proofs.rest.Rest.of.Given as goal

abbrev pub invariant-loop-j : goal.invariant-loop-j
invariant-loop-j l = All (λ j. j < length l.divisor) l.waiting.items × (map (term_at l.divisor) l.waiting.items ≡ take l.j l.divisor)
