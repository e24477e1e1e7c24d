-- The terms so far are in canonical form where those that are left are.
use Rattle.std.proofs.Common.{length}
use Rattle.mono_words.specs.declared.mono.TheConstants.{VARS}
use Rattle.polynomials.specs.Polynomials.{IsPolynomial}
use Rattle.poly_quotient.proofs.guess.is_canonical.Given as goal

abbrev pub invariant-loop-first : goal.invariant-loop-first
invariant-loop-first l = IsPolynomial l.fn.f VARS l.rest → IsPolynomial l.fn.f VARS l.terms

abbrev pub decreases-loop-first : goal.decreases-loop-first
decreases-loop-first l = length l.rest
