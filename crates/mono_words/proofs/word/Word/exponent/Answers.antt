-- The shifted word ends with the exponent.
use Rattle.std.proofs.Common.{◌/◌, ◌%◌, ◌^◌, ◌*◌, ◌∙◌, sym, ap}
use Rattle.std.proofs.lemmas.Nat.{and_mask}
use Rattle.mono_words.proofs.Places.{exponent_of-exponents, power_of_two}
use Rattle.mono_words.proofs.word.Word.exponent.Goals as goal

pub returns : goal.returns
returns c =
    and_mask (c.args.self.bits / 2 ^ (16 * c.args.v)) 16 ∙ ap (λ x. c.args.self.bits / x % 65536) (power_of_two c.args.v)
    ∙ sym (exponent_of-exponents 4 c.args.self.bits c.args.v c.requires)
