-- The entries so far and those to come are all.
use Rattle.std.proofs.Common.{◌≡◌, length, drop}
use Rattle.mono_words.specs.declared.mono.TheConstants.{VARS}
use Rattle.polynomials.specs.Polynomials.{ArePolynomials}
use Rattle.division_rules.specs.Within.{times_all_within}
use Rattle.pseudo_division.specs.FieldOperations.{operations}
use Rattle.pseudo_division.proofs.Lists.{IsMade}
use Rattle.pseudo_division.proofs.products.times_all.Given as goal

abbrev pub invariant-loop-i : goal.invariant-loop-i
invariant-loop-i l =
    IsMade (times_all_within (operations l.fn.w.field) l.fn.w.width l.fn.l l.list) l.entries (times_all_within (operations l.fn.w.field) l.fn.w.width l.fn.l (drop l.i l.list))
    × (length l.entries ≡ l.i)
    × ArePolynomials l.fn.w.field VARS l.entries
