-- The products of the words are the words of the product.
use Rattle.std.proofs.Common.{◌+◌, ◌≤◌, ◌∙◌, ap₂, arith}
use Rattle.polynomials.specs.Monomials.{monomial_product}
use Rattle.mono_words.proofs.Parts.{OfEachWord, each_word, four_words-product}
use Rattle.mono_words.proofs.mono.Mono.product.Goals as goal
use Rattle.mono_words.proofs.mono.Mono.product.Goals.{After-other}

-- the exponents of each word fit
words_fit : (c : After-other) → OfEachWord (λ d e. d + e ≤ 65535) c.self.inside.first.bits c.self.inside.second.bits c.self.inside.third.bits c.self.inside.fourth.bits c.other.inside.first.bits c.other.inside.second.bits c.other.inside.third.bits c.other.inside.fourth.bits
words_fit c =
    each_word (λ d e. d + e ≤ 65535) c.self.inside.first.bits c.self.inside.second.bits c.self.inside.third.bits c.self.inside.fourth.bits c.other.inside.first.bits c.other.inside.second.bits c.other.inside.third.bits c.other.inside.fourth.bits
    (omega arith) (rw (c.self.view_is, c.other.view_is) c.requires)

pub product-requires : goal.product-requires
product-requires c = (words_fit (goal.at.product-requires c).After-other).first

pub product-requires-2 : goal.product-requires-2
product-requires-2 c = (words_fit (goal.at.product-requires-2 c).After-other).second

pub product-requires-3 : goal.product-requires-3
product-requires-3 c = (words_fit (goal.at.product-requires-3 c).After-other).third

pub product-requires-4 : goal.product-requires-4
product-requires-4 c = (words_fit (goal.at.product-requires-4 c).After-other).fourth

pub returns : goal.returns
returns c =
    four_words-product c.self.inside.first.bits c.self.inside.second.bits c.self.inside.third.bits c.self.inside.fourth.bits c.other.inside.first.bits c.other.inside.second.bits c.other.inside.third.bits c.other.inside.fourth.bits
    c.product.result.bits c.product-2.result.bits c.product-3.result.bits c.product-4.result.bits
    c.product.ensures c.product-2.ensures c.product-3.ensures c.product-4.ensures
    ∙ ap₂ monomial_product c.self.view_is c.other.view_is
