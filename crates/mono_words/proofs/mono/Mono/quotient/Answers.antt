-- The quotients of the words are the words of the quotient.
use Rattle.std.proofs.Common.{◌≤◌, ◌∙◌, sym, ap, arith}
use Rattle.polynomials.specs.Monomials.{monomial_product}
use Rattle.mono_words.specs.FourWords.{four_words}
use Rattle.mono_words.proofs.Parts.{OfEachWord, each_word, four_words-product}
use Rattle.mono_words.proofs.mono.Mono.quotient.Goals as goal
use Rattle.mono_words.proofs.mono.Mono.quotient.Goals.{After-by}

-- each word is divided
words_divide : (c : After-by) → OfEachWord (λ d e. d ≤ e) c.by.inside.first.bits c.by.inside.second.bits c.by.inside.third.bits c.by.inside.fourth.bits c.self.inside.first.bits c.self.inside.second.bits c.self.inside.third.bits c.self.inside.fourth.bits
words_divide c =
    each_word (λ d e. d ≤ e) c.by.inside.first.bits c.by.inside.second.bits c.by.inside.third.bits c.by.inside.fourth.bits c.self.inside.first.bits c.self.inside.second.bits c.self.inside.third.bits c.self.inside.fourth.bits
    (omega arith) (rw (c.self.view_is, c.by.view_is) c.requires)

pub quotient-requires : goal.quotient-requires
quotient-requires c = (words_divide (goal.at.quotient-requires c).After-by).first

pub quotient-requires-2 : goal.quotient-requires-2
quotient-requires-2 c = (words_divide (goal.at.quotient-requires-2 c).After-by).second

pub quotient-requires-3 : goal.quotient-requires-3
quotient-requires-3 c = (words_divide (goal.at.quotient-requires-3 c).After-by).third

pub quotient-requires-4 : goal.quotient-requires-4
quotient-requires-4 c = (words_divide (goal.at.quotient-requires-4 c).After-by).fourth

pub returns : goal.returns
returns c =
    ap (monomial_product (four_words c.quotient.result.bits c.quotient-2.result.bits c.quotient-3.result.bits c.quotient-4.result.bits)) (sym c.by.view_is)
    ∙ sym (four_words-product c.quotient.result.bits c.quotient-2.result.bits c.quotient-3.result.bits c.quotient-4.result.bits
    c.by.inside.first.bits c.by.inside.second.bits c.by.inside.third.bits c.by.inside.fourth.bits c.self.inside.first.bits c.self.inside.second.bits c.self.inside.third.bits c.self.inside.fourth.bits
    (sym c.quotient.ensures) (sym c.quotient-2.ensures) (sym c.quotient-3.ensures) (sym c.quotient-4.ensures))
    ∙ c.self.view_is
