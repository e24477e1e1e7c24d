-- Coefficients have 32 bits and exponents 16, so no number of the text is too long.
use Rattle.std.proofs.Common.{◌∙◌, ◌++◌, map, string_bytes, ap}
use Rattle.std.proofs.lemmas.List.{length-map}
use Rattle.mono_words.specs.declared.mono.TheConstants.{VARS}
use Rattle.report_text.specs.Polynomials.{poly_text}
use Rattle.report_text.proofs.Spelling.{spells_over}
use Rattle.report_text.proofs.poly.print_poly.Goals as goal

pub returns-clause-spells : goal.returns-clause-spells
returns-clause-spells c =
    spells_over VARS (map string_bytes c.args.names.now) c.args.f.now (string_bytes c.write_poly.new.text)
    (λ v past. c.requires v (rw length-map at past)) c.facts.ensures.canonical
    c.facts.ensures.exponents
    (c.in_ok-write_poly.ensures ∙ ap (λ bytes. bytes ++ poly_text (map string_bytes c.args.names.now) c.args.f.now) c.new-text.ensures.bytes)
