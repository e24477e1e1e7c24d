-- What was written and what is to come are all polynomials.
use Rattle.std.proofs.Common.{◌≡◌, ◌++◌, map, drop, string_bytes}
use Rattle.std.specs.List.{flat_map}
use Rattle.report_text.specs.Lines.{poly_line}
use Rattle.report_text.proofs.chain.print_plain_chain.Given as goal

abbrev pub invariant-loop-i : goal.invariant-loop-i
invariant-loop-i l =
    string_bytes l.text ++ flat_map (poly_line (map string_bytes l.names)) (drop l.i l.polys)
    ≡ string_bytes l.initial.text ++ flat_map (poly_line (map string_bytes l.names)) l.polys
