-- The rows so far and those to come are all, and those so far are canonical.
use Rattle.std.proofs.Common.{◌≡◌, ◌++◌, ◌+◌, drop}
use Rattle.mono_words.specs.declared.mono.TheConstants.{VARS}
use Rattle.division_rules.specs.PolynomialRows.{ArePolynomialRows}
use Rattle.subresultants.specs.Generators.{generator_rows}
use Rattle.subresultants.proofs.generators.generator_rows.Given as goal

abbrev pub invariant-loop-i : goal.invariant-loop-i
invariant-loop-i l =
    (l.rows ++ generator_rows l.fn.w.field l.cofactors (l.before + l.i) (drop l.i l.list) ≡ generator_rows l.fn.w.field l.cofactors l.before l.list)
    × ArePolynomialRows l.fn.w.field VARS l.rows
