use Rattle.std.proofs.Common.{◌++◌, sym, ap, ◌∙◌}
use Rattle.std.specs.Option.{option_to_list}
use Rattle.work_pool.proofs.Goings.{none_spare, is_begun}
use Rattle.work_pool.proofs.Moved.{moves_itself}
use Rattle.work_pool.proofs.homes.Home.start.Goals as goal

pub returns-in-Some : goal.returns-in-Some
returns-in-Some g c = moves_itself _ _ _ c.requires

pub returns-in_default : goal.returns-in_default
returns-in_default g c =
    none_spare _ _ _ _ c.self.view_is c.requires c.take.new.self
    (ap option_to_list (c.take.ensures.after ∙ (sym c.in_default.is ∙ c.take.ensures.value)))

-- there was no generator
pub returns : goal.returns
returns g c =
    is_begun _ _ _ _ c.self.view_is c.requires c.in-Some-take.offer c.in_ok-generator.generator c.self.inside.aside c.take.new.self
    (ap (λ g. option_to_list g ++ c.self.inside.aside) c.in-None.is)
    (ap option_to_list (sym c.take.ensures.value ∙ c.in-Some-take.is)) c.in_ok-generator.ensures c.take.ensures.after
