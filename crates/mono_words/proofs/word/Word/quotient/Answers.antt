-- Where the divisor divides, the difference of the words takes nothing from a higher exponent.
use Rattle.std.proofs.Common.{arith}
use Rattle.mono_words.proofs.Lanes.{difference_of, exponents-sub}
use Rattle.mono_words.proofs.word.Word.quotient.Goals as goal

pub overflow_sub-result : goal.overflow_sub-result
overflow_sub-result c = (difference_of 4 c.args.by.bits c.args.self.bits (omega arith) (omega arith) c.requires).0

pub returns : goal.returns
returns c = exponents-sub 4 c.args.by.bits c.args.self.bits (omega arith) (omega arith) c.requires
