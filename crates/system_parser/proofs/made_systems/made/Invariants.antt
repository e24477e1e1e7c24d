-- The polynomials so far.
use Rattle.std.proofs.Common.{◌≡◌, map}
use Rattle.std.specs.List.{range_with_len}
use Rattle.mono_words.specs.declared.mono.TheConstants.{VARS}
use Rattle.system_parser.specs.Made.{made_polynomial, made_prime}
use Rattle.polynomials.specs.Polynomials.{ArePolynomials}
use Rattle.system_parser.proofs.made_systems.made.Given as goal

abbrev pub invariant-loop-i : goal.invariant-loop-i
invariant-loop-i l = (l.inputs ≡ map (made_polynomial VARS) (range_with_len 0 l.i)) × ArePolynomials made_prime VARS l.inputs
