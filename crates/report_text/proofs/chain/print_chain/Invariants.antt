-- What was written and what is to come are all certificates.
use Rattle.std.proofs.Common.{◌≡◌, ◌++◌, map, drop, string_bytes}
use Rattle.std.specs.List.{flat_map}
use Rattle.report_text.specs.Certified.{certificate_text}
use Rattle.report_text.proofs.chain.print_chain.Given as goal

abbrev pub invariant-loop-i : goal.invariant-loop-i
invariant-loop-i l =
    string_bytes l.text ++ flat_map (certificate_text (map string_bytes l.names) l.polys) (drop l.i l.certificates)
    ≡ string_bytes l.initial.text ++ flat_map (certificate_text (map string_bytes l.names) l.polys) l.certificates
