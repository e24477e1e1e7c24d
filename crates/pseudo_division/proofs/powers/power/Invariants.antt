-- The product so far is a power.
use Rattle.std.proofs.Common.{◌≡◌, Some}
use Rattle.mono_words.specs.declared.mono.TheConstants.{VARS}
use Rattle.polynomials.specs.Polynomials.{IsPolynomial}
use Rattle.division_rules.specs.Within.{power_of_within}
use Rattle.pseudo_division.specs.FieldOperations.{operations}
use Rattle.pseudo_division.proofs.powers.power.Given as goal

abbrev pub invariant-loop : goal.invariant-loop
invariant-loop l = (power_of_within (operations l.fn.w.field) l.fn.w.width l.fn.a l.counter ≡ Some l.product) × IsPolynomial l.fn.w.field VARS l.product
