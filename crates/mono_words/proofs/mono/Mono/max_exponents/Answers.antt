-- Where the other monomial divides this one, no exponent of it is greater.
use Rattle.std.proofs.Common.{◌∙◌, sym, ap₂}
use Rattle.polynomials.specs.Fits.{greater_exponents}
use Rattle.mono_words.proofs.Largest.{greater_exponents-multiple}
use Rattle.mono_words.proofs.Parts.{four_words-greater}
use Rattle.mono_words.proofs.mono.Mono.max_exponents.Goals as goal

pub returns-then-divides : goal.returns-then-divides
returns-then-divides c =
    c.self.view_is ∙ sym (greater_exponents-multiple c.args.self c.args.other (c.shape.ensures.variables ∙ sym c.shape-then-divides.ensures.variables) (c.divides.ensures.0 c.if-divides.true))

pub returns : goal.returns
returns c =
    four_words-greater c.self-2.inside.first.bits c.self-2.inside.second.bits c.self-2.inside.third.bits c.self-2.inside.fourth.bits c.other.inside.first.bits c.other.inside.second.bits c.other.inside.third.bits c.other.inside.fourth.bits
    c.greater_exponents.result.bits c.greater_exponents-2.result.bits c.greater_exponents-3.result.bits c.greater_exponents-4.result.bits
    c.greater_exponents.ensures c.greater_exponents-2.ensures c.greater_exponents-3.ensures c.greater_exponents-4.ensures
    ∙ ap₂ greater_exponents c.self-2.view_is c.other.view_is
