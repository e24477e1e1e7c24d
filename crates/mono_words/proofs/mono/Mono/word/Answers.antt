-- The words of the monomial stand one after the other.
use Rattle.std.proofs.Common.{◌≡◌, ◌∙◌, ap, arith}
use Rattle.mono_words.specs.Words.{exponents}
use Rattle.mono_words.specs.FourWords.{four_words, word_of}
use Rattle.mono_words.proofs.mono.Mono.word.Goals as goal

pub returns-in-0 : goal.returns-in-0
unfolding four_words exponents
returns-in-0 c =
    ap (word_of 0) c.self.view_is ∙ ap (λ k. word_of k c.args.self) (let index : 0 ≡ c.args.i = omega arith in index)

pub returns-in-1 : goal.returns-in-1
unfolding four_words exponents
returns-in-1 c =
    ap (word_of 1) c.self.view_is ∙ ap (λ k. word_of k c.args.self) (let index : 1 ≡ c.args.i = omega arith in index)

pub returns-in-2 : goal.returns-in-2
unfolding four_words exponents
returns-in-2 c =
    ap (word_of 2) c.self.view_is ∙ ap (λ k. word_of k c.args.self) (let index : 2 ≡ c.args.i = omega arith in index)

pub returns-in_default : goal.returns-in_default
unfolding four_words exponents
returns-in_default c =
    ap (word_of 3) c.self.view_is ∙ ap (λ k. word_of k c.args.self) (let index : 3 ≡ c.args.i = omega arith in index)
