-- What was written and what is to come are all terms behind the first.
use Rattle.std.proofs.Common.{◌≡◌, ◌++◌, map, drop, string_bytes}
use Rattle.std.specs.List.{flat_map}
use Rattle.std.specs.Prelude.{codes}
use Rattle.report_text.specs.Polynomials.{term_text}
use Rattle.report_text.proofs.poly.write_poly.Given as goal

abbrev pub invariant-loop-t : goal.invariant-loop-t
invariant-loop-t l =
    string_bytes l.text ++ flat_map (λ t. codes " + " ++ term_text (map string_bytes l.names) t) (drop l.t-index l.others)
    ≡ string_bytes l.initial.text ++ flat_map (λ t. codes " + " ++ term_text (map string_bytes l.names) t) l.others
