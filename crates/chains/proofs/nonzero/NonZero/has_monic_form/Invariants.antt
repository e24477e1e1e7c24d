-- The polynomials before the place are not the monic form.
use Rattle.std.proofs.Common.{◌≡◌, drop}
use Rattle.polynomials.specs.Polynomials.{monic}
use Rattle.zero_sets.specs.Tasks.{is_member}
use Rattle.chains.proofs.nonzero.NonZero.has_monic_form.Given as goal

abbrev pub invariant-loop-i : goal.invariant-loop-i
invariant-loop-i l = is_member (monic l.f l.h) (drop l.i l.self-inside.polys) ≡ is_member (monic l.f l.h) l.self-inside.polys
