-- Where the exponents fit, the sum of the words has no carry.
use Rattle.std.proofs.Common.{arith}
use Rattle.mono_words.proofs.Lanes.{AddWithoutCarry-fit, exponents-add, sum_below}
use Rattle.mono_words.proofs.word.Word.product.Goals as goal

pub overflow_add-result : goal.overflow_add-result
overflow_add-result c =
    omega (
      arith,
      sum_below 4 c.args.self.bits c.args.other.bits (omega arith) (omega arith) (AddWithoutCarry-fit 4 c.args.self.bits c.args.other.bits c.requires),
    )

pub returns : goal.returns
returns c = exponents-add 4 c.args.self.bits c.args.other.bits (AddWithoutCarry-fit 4 c.args.self.bits c.args.other.bits c.requires)
