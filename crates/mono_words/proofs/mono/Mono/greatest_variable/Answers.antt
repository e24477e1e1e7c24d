-- The greatest word that is not 0 has the greatest variable.
use Rattle.std.proofs.Common.{◌∙◌, sym, ap}
use Rattle.polynomials.specs.Monomials.{greatest_variable}
use Rattle.mono_words.proofs.PartOrder.{greatest_of_fourth, greatest_of_third, greatest_of_second, greatest_of_first}
use Rattle.mono_words.proofs.mono.Mono.greatest_variable.Goals as goal

pub returns-in-Some : goal.returns-in-Some
returns-in-Some c =
    sym (greatest_of_fourth c.self.inside.first.bits c.self.inside.second.bits c.self.inside.third.bits c.self.inside.fourth.bits c.in-Some.v (cc))
    ∙ ap greatest_variable c.self.view_is

pub returns-in-Some-greatest_variable : goal.returns-in-Some-greatest_variable
returns-in-Some-greatest_variable c =
    sym (greatest_of_third c.self.inside.first.bits c.self.inside.second.bits c.self.inside.third.bits c.self.inside.fourth.bits c.in-Some-greatest_variable.v (cc) (cc))
    ∙ ap greatest_variable c.self.view_is

pub returns-in-Some-greatest_variable-2 : goal.returns-in-Some-greatest_variable-2
returns-in-Some-greatest_variable-2 c =
    sym (greatest_of_second c.self.inside.first.bits c.self.inside.second.bits c.self.inside.third.bits c.self.inside.fourth.bits c.in-Some-greatest_variable-2.v (cc) (cc) (cc))
    ∙ ap greatest_variable c.self.view_is

pub returns : goal.returns
returns c =
    c.greatest_variable-4.ensures.value
    ∙ sym (greatest_of_first c.self.inside.first.bits c.self.inside.second.bits c.self.inside.third.bits c.self.inside.fourth.bits (cc) (cc) (cc))
    ∙ ap greatest_variable c.self.view_is
