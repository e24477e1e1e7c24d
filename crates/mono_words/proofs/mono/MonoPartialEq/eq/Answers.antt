-- The words tell the exponents.
use Rattle.std.proofs.Common.{◌∙◌, ap₂}
use Rattle.polynomials.specs.Monomials.{same_monomial}
use Rattle.mono_words.proofs.PartOrder.{same-four_words}
use Rattle.mono_words.proofs.mono.MonoPartialEq.eq.Goals as goal

pub returns : goal.returns
returns c =
    same-four_words c.self.inside.first.bits c.self.inside.second.bits c.self.inside.third.bits c.self.inside.fourth.bits c.other.inside.first.bits c.other.inside.second.bits c.other.inside.third.bits c.other.inside.fourth.bits c.self.invariant c.other.invariant
    ∙ ap₂ same_monomial c.self.view_is c.other.view_is
