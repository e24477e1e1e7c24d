-- What is left makes the whole result, and its degrees fall.
use Rattle.std.proofs.Common.{sum}
use Rattle.mono_words.specs.declared.mono.TheConstants.{VARS}
use Rattle.polynomials.specs.Fits.{degrees}
use Rattle.poly_quotient.proofs.Removals.{IsLeft}
use Rattle.poly_quotient.proofs.factors.without.Given as goal

abbrev pub invariant-loop-left : goal.invariant-loop-left
invariant-loop-left l = IsLeft l.field VARS l.width l.b l.fn.a l.left

abbrev pub decreases-loop-left : goal.decreases-loop-left
decreases-loop-left l = sum (degrees l.left)
