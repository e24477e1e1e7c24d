-- The parser takes the words just where they fall into items.
use Rattle.std.proofs.Common.{◌≡◌, map, string_bytes, sym, ◌∙◌}
use Rattle.tri_io.specs.declared.options.WordsFault.TheVariants.{NotACommand}
use Rattle.tri_io.specs.Texts.{rule_names}
use Rattle.tri_io.proofs.Matches.{items_without_break}
use Rattle.tri_io.proofs.Chosen.{a_break, no_breaks, no_command, texts_of_command}
use Rattle.tri_io.proofs.options.matches_of.Goals as goal

pub returns-then-has_break-clause-refused : goal.returns-then-has_break-clause-refused
returns-then-has_break-clause-refused c _ items lawful =
    a_break c.args.words.now (sym c.has_break.ensures ∙ c.if-has_break.true) (items_without_break c.args.options.now (map string_bytes c.args.words.now) items c.requires lawful)

pub returns-in-Ok-try_get_matches_from-clause-texts : goal.returns-in-Ok-try_get_matches_from-clause-texts
returns-in-Ok-try_get_matches_from-clause-texts c =
    let breaks = no_breaks c.args.words.now (sym c.has_break.ensures ∙ c.if-has_break.false) in
    let found = texts_of_command _ (rule_names c.args.options.now) (map string_bytes c.args.words.now) c.in-Ok-try_get_matches_from.matches c.in-Ok.ensures breaks c.in-Ok-try_get_matches_from.ensures.kinds c.in-Ok-try_get_matches_from.ensures.matches in
    (found.items, found.texts, found.each)

pub returns-in-Err-try_get_matches_from-clause-refused : goal.returns-in-Err-try_get_matches_from-clause-refused
returns-in-Err-try_get_matches_from-clause-refused c refused items lawful =
    let is : c.fault_of.result ≡ NotACommand = cc in
    no_command _ c.args.options.now (map string_bytes c.args.words.now) c.in-Err-try_get_matches_from.error c.in-Ok.ensures c.requires c.in-Err-try_get_matches_from.ensures.kinds (c.fault_of.ensures is) items lawful
