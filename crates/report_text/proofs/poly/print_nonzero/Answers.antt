-- The polynomial spells itself, and stands behind the word.
use Rattle.std.proofs.Common.{map, string_bytes}
use Rattle.std.proofs.lemmas.Result.{IfOk-weaker}
use Rattle.mono_words.specs.declared.mono.TheConstants.{VARS}
use Rattle.report_text.proofs.NonzeroLines.{nonzero_over}
use Rattle.report_text.proofs.poly.print_nonzero.Goals as goal

pub returns-clause-spells : goal.returns-clause-spells
returns-clause-spells c =
    IfOk-weaker c.format.result _ _
    (λ text is. nonzero_over VARS (map string_bytes c.args.names.now) c.args.f.now (string_bytes c.in_ok-poly.poly) (string_bytes text) c.in_ok-poly.ensures.spells is)
    c.format.ensures.ok
