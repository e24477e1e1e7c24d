-- What was written and what is to come are all lines.
use Rattle.std.proofs.Common.{◌≡◌, ◌++◌, map, drop, string_bytes}
use Rattle.report_text.specs.Answers.{nonzero_text}
use Rattle.solver_reports.proofs.nonzero.nonzero_lines.Given as goal

abbrev pub invariant-loop-i : goal.invariant-loop-i
invariant-loop-i l =
    string_bytes l.text ++ nonzero_text (map string_bytes l.names) (drop l.i l.nonzero)
    ≡ nonzero_text (map string_bytes l.names) l.nonzero
