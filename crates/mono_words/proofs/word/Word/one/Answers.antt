-- The word 0 has the exponents 0.
use Rattle.mono_words.proofs.Places.{exponents-zero}
use Rattle.mono_words.proofs.word.Word.one.Goals as goal

pub returns : goal.returns
returns c = exponents-zero 4
