-- A token is a run of bytes, or one byte.
use Rattle.std.proofs.Common.{sym, ◌∙◌}
use Rattle.system_parser.proofs.Runs.{begin_with_name, begin_with_number}
use Rattle.system_parser.proofs.Spellings.{passing_bytes, passing_digits}
use Rattle.system_text.specs.Characters.{is_name_character}
use Rattle.system_parser.proofs.tokens.Token.at.Goals as goal

pub returns-then-is_letter-clause-token : goal.returns-then-is_letter-clause-token
returns-then-is_letter-clause-token c =
    begin_with_name c.leading_name_characters.result c.args.bytes.now c.leading_name_characters.ensures.count c.requires.some c.requires.no_space (sym c.is_letter.ensures ∙ c.if-is_letter.true)

pub returns-then-is_digit-clause-token : goal.returns-then-is_digit-clause-token
returns-then-is_digit-clause-token c =
    begin_with_number c.leading_digits.result c.args.bytes.now c.leading_digits.ensures.count c.requires.some c.requires.no_space (sym c.is_letter.ensures ∙ c.if-is_letter.false) c.if-first-eq48.false (sym c.is_digit.ensures ∙ c.if-is_digit.true)

pub returns-then-is_letter-clause-spelled : goal.returns-then-is_letter-clause-spelled
returns-then-is_letter-clause-spelled c = passing_bytes is_name_character c.leading_name_characters.result c.args.bytes.now c.leading_name_characters.ensures.count

pub returns-then-is_digit-clause-spelled : goal.returns-then-is_digit-clause-spelled
returns-then-is_digit-clause-spelled c = passing_digits c.leading_digits.result c.args.bytes.now c.leading_digits.ensures.count
