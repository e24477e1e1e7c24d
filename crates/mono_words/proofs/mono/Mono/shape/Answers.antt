-- Four words have sixteen exponents of 16 bits.
use Rattle.mono_words.proofs.Parts.{length-four_words, four_words_exponent, four_words_small}
use Rattle.mono_words.proofs.mono.Mono.shape.Goals as goal

pub returns-clause-variables : goal.returns-clause-variables
returns-clause-variables c = rw (← c.self.view_is) (length-four_words c.self.inside.first.bits c.self.inside.second.bits c.self.inside.third.bits c.self.inside.fourth.bits)

pub returns-clause-exponents : goal.returns-clause-exponents
returns-clause-exponents c = rw (← c.self.view_is) (four_words_exponent c.self.inside.first.bits c.self.inside.second.bits c.self.inside.third.bits c.self.inside.fourth.bits)

pub returns-clause-within : goal.returns-clause-within
returns-clause-within c = rw (← c.self.view_is) (four_words_small c.self.inside.first.bits c.self.inside.second.bits c.self.inside.third.bits c.self.inside.fourth.bits)
