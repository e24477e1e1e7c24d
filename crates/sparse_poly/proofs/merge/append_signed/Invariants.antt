-- What was appended and what is to come are the whole.
use Rattle.std.proofs.Common.{◌≡◌, ◌++◌, drop}
use Rattle.sparse_poly.specs.Signs.{signed}
use Rattle.sparse_poly.proofs.merge.append_signed.Given as goal

abbrev pub invariant-loop-t : goal.invariant-loop-t
invariant-loop-t l = l.out.items ++ signed l.fn.f l.fn.sign (drop l.t-index l.rest) ≡ l.fn.out.items ++ signed l.fn.f l.fn.sign l.rest
