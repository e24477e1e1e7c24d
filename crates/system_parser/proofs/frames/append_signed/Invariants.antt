-- What was appended and what is to come are the whole.
use Rattle.std.proofs.Common.{◌≡◌, ◌++◌, drop}
use Rattle.system_parser.specs.Sums.{signed_terms}
use Rattle.system_parser.proofs.frames.append_signed.Given as goal

abbrev pub invariant-loop-t : goal.invariant-loop-t
invariant-loop-t l = l.out.items ++ signed_terms l.fn.f l.fn.is_negative (drop l.t-index l.terms) ≡ l.fn.out.items ++ signed_terms l.fn.f l.fn.is_negative l.terms
