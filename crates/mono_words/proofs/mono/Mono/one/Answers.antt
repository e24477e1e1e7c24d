-- Four words of 0.
use Rattle.mono_words.proofs.Parts.{four_words-one}
use Rattle.mono_words.proofs.mono.Mono.one.Goals as goal

pub returns : goal.returns
returns c = four_words-one c.one-word.result.bits c.one-word.ensures
