use Rattle.std.proofs.Common.{◌++◌, sym, ap, ◌∙◌}
use Rattle.std.specs.Option.{option_to_list}
use Rattle.work_pool.proofs.Covered.{lawful_waiting}
use Rattle.work_pool.proofs.Goings.{works_none, met_none, met_event, met_all, true_places}
use Rattle.work_pool.proofs.homes.Home.turn.Goals as goal

pub returns-in_default : goal.returns-in_default
returns-in_default g c =
    works_none _ _ _ _ c.self.view_is c.requires.desk _ _ c.requires.key c.take.new.self c.self.inside.aside
    (ap (λ g. option_to_list g ++ c.self.inside.aside) (c.take.ensures.after ∙ (sym c.in_default.is ∙ c.take.ensures.value)))

pub turn-requires : goal.turn-requires
turn-requires g c =
    lawful_waiting (g.X.Splitter.step c.args.splitter.now) _ _ _ c.in-Some.generator c.requires.key
    (true_places _ _ _ _ c.self.view_is c.requires.desk c.in-Some.generator c.self.inside.aside
    (ap (λ g. option_to_list g ++ c.self.inside.aside) (sym c.take.ensures.value ∙ c.in-Some.is)))

pub returns-in-Ok-Quiet : goal.returns-in-Ok-Quiet
returns-in-Ok-Quiet g c =
    met_none _ _ _ _ c.self.view_is c.requires.desk _ _ c.requires.key c.in-Some.generator c.turn.new.self c.self.inside.aside
    (ap (λ g. option_to_list g ++ c.self.inside.aside) (sym c.take.ensures.value ∙ c.in-Some.is))
    (rw c.in-Ok-Quiet.field-0-is at c.in-Ok-Quiet.ensures.waits)
    (rw c.in-Ok-Quiet.field-0-is at c.in-Ok-Quiet.ensures.events)

pub returns-in-Ok-Event : goal.returns-in-Ok-Event
returns-in-Ok-Event g c =
    met_event _ _ _ _ c.self.view_is c.requires.desk _ _ c.requires.key c.in-Some.generator c.turn.new.self c.self.inside.aside c.in-Ok-Event.event
    (ap (λ g. option_to_list g ++ c.self.inside.aside) (sym c.take.ensures.value ∙ c.in-Some.is)) c.requires.free
    (rw c.in-Ok-Event.field-0-is at c.in-Ok-Event.ensures.waits)
    (rw c.in-Ok-Event.field-0-is at c.in-Ok-Event.ensures.events)

pub returns-in-Ok-Done : goal.returns-in-Ok-Done
returns-in-Ok-Done g c =
    met_all _ _ _ _ c.self.view_is c.requires.desk _ _ c.requires.key c.in-Some.generator c.self.inside.aside c.take.new.self
    (ap (λ g. option_to_list g ++ c.self.inside.aside) (sym c.take.ensures.value ∙ c.in-Some.is))
    (rw c.in-Ok-Done.field-0-is at c.in-Ok-Done.ensures.waits).0 c.take.ensures.after
