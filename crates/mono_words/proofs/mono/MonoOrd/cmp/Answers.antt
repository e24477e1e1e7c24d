-- The order of the words is the order of the monomials.
use Rattle.std.proofs.Common.{◌∙◌, ap₂}
use Rattle.polynomials.specs.Monomials.{monomial_order}
use Rattle.mono_words.proofs.PartOrder.{by_first, by_second, by_third, by_fourth}
use Rattle.mono_words.proofs.mono.MonoOrd.cmp.Goals as goal

pub returns-then-self-other : goal.returns-then-self-other
returns-then-self-other c =
    c.cmp.ensures
    ∙ (by_fourth c.self.inside.first.bits c.self.inside.second.bits c.self.inside.third.bits c.self.inside.fourth.bits c.other.inside.first.bits c.other.inside.second.bits c.other.inside.third.bits c.other.inside.fourth.bits c.self.invariant c.other.invariant c.if-self-other.true
    ∙ ap₂ monomial_order c.self.view_is c.other.view_is)

pub returns-then-self-other-2 : goal.returns-then-self-other-2
returns-then-self-other-2 c =
    c.cmp-then-self-other-2.ensures
    ∙ (by_third c.self.inside.first.bits c.self.inside.second.bits c.self.inside.third.bits c.self.inside.fourth.bits c.other.inside.first.bits c.other.inside.second.bits c.other.inside.third.bits c.other.inside.fourth.bits c.self.invariant c.other.invariant c.if-self-other.false c.if-self-other-2.true
    ∙ ap₂ monomial_order c.self.view_is c.other.view_is)

pub returns-then-self-other-3 : goal.returns-then-self-other-3
returns-then-self-other-3 c =
    c.cmp-then-self-other-3.ensures
    ∙ (by_second c.self.inside.first.bits c.self.inside.second.bits c.self.inside.third.bits c.self.inside.fourth.bits c.other.inside.first.bits c.other.inside.second.bits c.other.inside.third.bits c.other.inside.fourth.bits c.self.invariant c.other.invariant c.if-self-other.false c.if-self-other-2.false c.if-self-other-3.true
    ∙ ap₂ monomial_order c.self.view_is c.other.view_is)

pub returns : goal.returns
returns c =
    c.cmp-2.ensures
    ∙ (by_first c.self.inside.first.bits c.self.inside.second.bits c.self.inside.third.bits c.self.inside.fourth.bits c.other.inside.first.bits c.other.inside.second.bits c.other.inside.third.bits c.other.inside.fourth.bits c.self.invariant c.other.invariant c.if-self-other.false c.if-self-other-2.false c.if-self-other-3.false
    ∙ ap₂ monomial_order c.self.view_is c.other.view_is)
