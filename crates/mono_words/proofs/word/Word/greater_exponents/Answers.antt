-- Each round puts one greater exponent below those of the greater variables.
use Rattle.std.proofs.Common.{◌∙◌, max, ap₂}
use Rattle.mono_words.specs.Words.{exponents}
use Rattle.mono_words.proofs.Lanes.{length-exponents}
use Rattle.mono_words.proofs.Largest.{none_yet, next_shifted}
use Rattle.mono_words.proofs.ZeroWords.{greater_than_zero}
use Rattle.mono_words.proofs.word.Word.greater_exponents.Goals as goal

pub loop-v-init : goal.loop-v-init
loop-v-init c =
    none_yet (exponents 4 c.args.self.bits) (exponents 4 c.args.other.bits)
    (length-exponents 4 c.args.self.bits) (length-exponents 4 c.args.other.bits)

pub loop-v-preserved : goal.loop-v-preserved
loop-v-preserved c =
    next_shifted (exponents 4 c.args.self.bits) (exponents 4 c.args.other.bits) c.loop-v.v c.loop-v.bits c.max-greater.result
    (length-exponents 4 c.args.self.bits) (length-exponents 4 c.args.other.bits) c.max-greater.type_inv
    (c.max-greater.ensures ∙ ap₂ max c.exponent.ensures c.exponent-in-loop-v.ensures)
    c.loop-v-test.true c.loop-v.invariant

pub returns-then-other-eq0 : goal.returns-then-other-eq0
returns-then-other-eq0 c = greater_than_zero 4 c.args.self.bits c.args.other.bits c.if-other-eq0.true
