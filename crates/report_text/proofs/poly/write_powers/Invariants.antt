-- What was written and what is to come are all powers.
use Rattle.std.proofs.Common.{◌≡◌, ◌++◌, map, drop, string_bytes}
use Rattle.report_text.specs.Polynomials.{power_texts, powers_text}
use Rattle.report_text.proofs.poly.write_powers.Given as goal

abbrev pub invariant-loop-v : goal.invariant-loop-v
invariant-loop-v l =
    string_bytes l.text ++ powers_text l.is_first (power_texts (drop l.v (map string_bytes l.names)) (drop l.v l.m))
    ≡ string_bytes l.initial.text ++ powers_text l.fn.begin_term (power_texts (map string_bytes l.names) l.m)
