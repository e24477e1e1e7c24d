use Rattle.std.proofs.Common.{◌++◌, sym, ap, ◌∙◌}
use Rattle.std.specs.Option.{option_to_list}
use Rattle.work_pool.proofs.Goings.{none_waits, may_be_given}
use Rattle.work_pool.proofs.homes.Home.give.Goals as goal

pub returns-in_default : goal.returns-in_default
returns-in_default g c =
    none_waits _ _ _ _ c.self.view_is c.requires.desk c.take.new.self c.self.inside.aside
    (ap (λ g. option_to_list g ++ c.self.inside.aside) (c.take.ensures.after ∙ (sym c.in_default.is ∙ c.take.ensures.value)))

pub returns : goal.returns
returns g c =
    may_be_given _ _ _ _ c.self.view_is c.requires.desk c.in-Some.generator c.give_next.new.self c.self.inside.aside c.in_ok-self-inside.field-0
    (ap (λ g. option_to_list g ++ c.self.inside.aside) (sym c.take.ensures.value ∙ c.in-Some.is)) c.requires.free c.in_ok-self-inside.ensures.second c.in_ok-self-inside.ensures.same
