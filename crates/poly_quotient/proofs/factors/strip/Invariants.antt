-- Division of what is left by the members to come gives the whole result.
use Rattle.std.proofs.Common.{◌≡◌, ◌≢◌, [], drop}
use Rattle.mono_words.specs.declared.mono.TheConstants.{VARS}
use Rattle.polynomials.specs.Polynomials.{IsPolynomial}
use Rattle.division_rules.specs.Quotients.{without_factors}
use Rattle.poly_quotient.proofs.factors.strip.Given as goal

abbrev pub invariant-loop-i : goal.invariant-loop-i
invariant-loop-i l =
    (l.left ≢ [])
    × IsPolynomial l.field VARS l.left
    × (without_factors l.field l.width (drop l.i l.list) l.left ≡ without_factors l.field l.width l.list l.a)
