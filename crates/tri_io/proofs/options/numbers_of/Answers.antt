-- Texts that are numbers of their options are items, and others are none.
use Rattle.std.proofs.Common.{map, string_bytes, sym, refl, ◌∙◌}
use Rattle.clap.specs.Words.{first_value, found_of}
use Rattle.tri_io.proofs.KnownCommands.{no_items}
use Rattle.tri_io.proofs.Chosen.{numbers_are}
use Rattle.tri_io.proofs.options.numbers_of.Goals as goal

pub returns-in_err-number-clause-refused : goal.returns-in_err-number-clause-refused
returns-in_err-number-clause-refused c _ items lawful =
    let read = c.in_ok-matches.ensures.texts in
    let bad = c.in_err-number.ensures.refused in
    let rule = c.option-item.result in
    no_items c.args.options.now (map string_bytes c.args.words.now) read.0 rule bad.0 c.requires read.1
    (c.loop-option.option-index, rule, c.loop-option-test.true, sym c.option-item.is, refl) (sym (read.2 rule.name) ∙ bad.1) bad.2 items lawful

pub returns-clause-numbers : goal.returns-clause-numbers
returns-clause-numbers c =
    let read = c.in_ok-matches.ensures.texts in
    numbers_are c.args.options.now (map string_bytes c.args.words.now) (first_value (found_of c.in_ok-matches.matches)) read.0 c.loop-option.option-index c.loop-option.numbers.items
    read.1 read.2 c.loop-option-test.false c.loop-option.invariant.0 c.loop-option.invariant.1
