-- The word has the greater exponents of the variables from v on.
use Rattle.mono_words.specs.Words.{exponents}
use Rattle.mono_words.proofs.Largest.{IsUpperPart}
use Rattle.mono_words.proofs.word.Word.greater_exponents.Given as goal

abbrev pub invariant-loop-v : goal.invariant-loop-v
invariant-loop-v l = IsUpperPart (exponents 4 l.self.bits) (exponents 4 l.other.bits) l.v l.bits
