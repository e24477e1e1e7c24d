-- The terms to come decide.
use Rattle.std.proofs.Common.{◌≡◌, drop}
use Rattle.polynomials.specs.Polynomials.{scaled, same_polynomial}
use Rattle.chains.proofs.monic_forms.is_multiple.Given as goal

abbrev pub invariant-loop-i : goal.invariant-loop-i
invariant-loop-i l = same_polynomial (scaled l.fn.f l.fn.c (drop l.i l.t)) (drop l.i l.u) ≡ same_polynomial (scaled l.fn.f l.fn.c l.t) l.u
