-- The exponents fit exactly where the sum of the words has no carry, and then it has 64 bits.
use Rattle.std.proofs.Common.{arith}
use Rattle.mono_words.proofs.Lanes.{AddWithoutCarry-fit, fit-AddWithoutCarry, sum_below}
use Rattle.mono_words.proofs.word.Word.fits.Goals as goal

pub returns-in-Some : goal.returns-in-Some
returns-in-Some c = (
  (λ h. fit-AddWithoutCarry 4 c.args.self.bits c.args.other.bits (c.adds_without_carry.ensures.0 h)),
  (λ fit. c.adds_without_carry.ensures.1 (AddWithoutCarry-fit 4 c.args.self.bits c.args.other.bits fit)),
)

pub returns-in-None : goal.returns-in-None
returns-in-None c = (
  (λ h. cc),
  (λ fit. absurd (c.in-None.ensures (sum_below 4 c.args.self.bits c.args.other.bits (omega arith) (omega arith)
      (AddWithoutCarry-fit 4 c.args.self.bits c.args.other.bits fit)))),
)
