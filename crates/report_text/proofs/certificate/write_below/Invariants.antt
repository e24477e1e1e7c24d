-- What was written and what is to come are the lines of all cofactors, one for each polynomial below.
use Rattle.std.proofs.Common.{◌≡◌, ◌+◌, ◌≤◌, ◌++◌, length, map, drop, string_bytes}
use Rattle.zero_sets.specs.ZeroSets.{members_below}
use Rattle.report_text.proofs.CertificateLines.{lines_below}
use Rattle.report_text.proofs.certificate.write_below.Given as goal

abbrev pub invariant-loop-i : goal.invariant-loop-i
invariant-loop-i l =
    (string_bytes l.text ++ lines_below (map string_bytes l.names) l.certificate.of (drop l.i l.chain) (drop l.written l.certificate.below)
    ≡ string_bytes l.initial.text ++ lines_below (map string_bytes l.names) l.certificate.of l.chain l.certificate.below)
    × (l.written + length (members_below l.certificate.of (drop l.i l.chain)) ≡ length l.certificate.below)
    × (l.written ≤ l.i)
