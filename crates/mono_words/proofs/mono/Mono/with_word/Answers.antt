-- The other words stay.
use Rattle.std.proofs.Common.{◌≡◌, ◌∙◌, ap, arith}
use Rattle.mono_words.specs.Words.{exponents}
use Rattle.mono_words.specs.FourWords.{four_words, with_word}
use Rattle.mono_words.proofs.mono.Mono.with_word.Goals as goal

pub returns-in-0 : goal.returns-in-0
unfolding four_words exponents
returns-in-0 c =
    ap (λ m. with_word m 0 (exponents 4 c.args.word.bits)) c.self.view_is ∙ ap (λ k. with_word c.args.self k (exponents 4 c.args.word.bits)) (let index : 0 ≡ c.args.i = omega arith in index)

pub returns-in-1 : goal.returns-in-1
unfolding four_words exponents
returns-in-1 c =
    ap (λ m. with_word m 1 (exponents 4 c.args.word.bits)) c.self.view_is ∙ ap (λ k. with_word c.args.self k (exponents 4 c.args.word.bits)) (let index : 1 ≡ c.args.i = omega arith in index)

pub returns-in-2 : goal.returns-in-2
unfolding four_words exponents
returns-in-2 c =
    ap (λ m. with_word m 2 (exponents 4 c.args.word.bits)) c.self.view_is ∙ ap (λ k. with_word c.args.self k (exponents 4 c.args.word.bits)) (let index : 2 ≡ c.args.i = omega arith in index)

pub returns-in_default : goal.returns-in_default
unfolding four_words exponents
returns-in_default c =
    ap (λ m. with_word m 3 (exponents 4 c.args.word.bits)) c.self.view_is ∙ ap (λ k. with_word c.args.self k (exponents 4 c.args.word.bits)) (let index : 3 ≡ c.args.i = omega arith in index)
