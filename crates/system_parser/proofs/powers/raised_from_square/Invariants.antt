-- The power that was made so far.
use Rattle.std.proofs.Common.{◌≡◌, Some}
use Rattle.mono_words.specs.declared.mono.TheConstants.{VARS}
use Rattle.polynomials.specs.Polynomials.{IsPolynomial}
use Rattle.polynomials.specs.Fits.{power_within}
use Rattle.system_text.specs.Limits.{text_width}
use Rattle.system_parser.proofs.powers.raised_from_square.Given as goal

abbrev pub invariant-loop : goal.invariant-loop
invariant-loop l = record {
  made : power_within l.f VARS text_width l.base l.counter ≡ Some l.power;
  over : IsPolynomial l.f VARS l.power;
}
