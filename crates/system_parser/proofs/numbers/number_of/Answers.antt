-- Each digit goes on with the number.
use Rattle.std.proofs.Common.{arith}
use Rattle.system_parser.proofs.DigitValues.{next_digit}
use Rattle.system_parser.proofs.numbers.number_of.Goals as goal

pub overflow_mul-value : goal.overflow_mul-value
overflow_mul-value c = let next = next_digit c.args.digits.now c.loop-b.b-index c.loop-b.value c.requires c.if-digits-gt-MOST_DIGITS.false c.loop-b-test.true c.loop-b.invariant in omega (arith, next.small)

pub overflow_sub-value : goal.overflow_sub-value
overflow_sub-value c = (next_digit c.args.digits.now c.loop-b.b-index c.loop-b.value c.requires c.if-digits-gt-MOST_DIGITS.false c.loop-b-test.true c.loop-b.invariant).digit

pub overflow_add-value : goal.overflow_add-value
overflow_add-value c = let next = next_digit c.args.digits.now c.loop-b.b-index c.loop-b.value c.requires c.if-digits-gt-MOST_DIGITS.false c.loop-b-test.true c.loop-b.invariant in omega (arith, next.small)

pub loop-b-preserved : goal.loop-b-preserved
loop-b-preserved c = (next_digit c.args.digits.now c.loop-b.b-index c.loop-b.value c.requires c.if-digits-gt-MOST_DIGITS.false c.loop-b-test.true c.loop-b.invariant).next
