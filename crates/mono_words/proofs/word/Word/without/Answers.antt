-- The exponent is taken from its place.
use Rattle.std.proofs.Common.{◌≤◌, ◌-◌, ◌^◌, ◌∙◌, sym, ap, subst}
use Rattle.mono_words.specs.Words.{exponents}
use Rattle.mono_words.proofs.Places.{masked_place, place_le, exponents-without}
use Rattle.mono_words.proofs.word.Word.without.Goals as goal

pub overflow_sub-result : goal.overflow_sub-result
overflow_sub-result c =
    subst (λ x. x ≤ c.args.self.bits) (sym (masked_place c.args.self.bits c.args.v c.requires)) (place_le c.args.self.bits (65536 ^ c.args.v))

pub returns : goal.returns
returns c =
    ap (λ x. exponents 4 (c.args.self.bits - x)) (masked_place c.args.self.bits c.args.v c.requires)
    ∙ exponents-without 4 c.args.self.bits c.args.v c.requires
