use Rattle.std.proofs.Common.{sym, ap, ◌∙◌}
use Rattle.std.specs.Option.{option_to_list}
use Rattle.work_pool.proofs.Goings.{none_held, is_put, comes_back, true_event}
use Rattle.work_pool.proofs.homes.Home.put.Goals as goal

pub returns-in_default : goal.returns-in_default
returns-in_default g c =
    none_held _ _ _ _ c.self.view_is c.requires.desk c.take.new.self
    (ap option_to_list (c.take.ensures.after ∙ (sym c.in_default.is ∙ c.take.ensures.value)))

pub put-requires-clause-event : goal.put-requires-clause-event
put-requires-clause-event g c =
    true_event _ _ _ _ c.self.view_is c.requires.desk c.in-Some.event
    (ap option_to_list (sym c.take.ensures.value ∙ c.in-Some.is))

pub returns-in-Err : goal.returns-in-Err
returns-in-Err g c =
    comes_back _ _ _ _ c.self.view_is c.requires.desk c.in-Some.event c.in-Err.full.event c.put.new.lane
    (ap option_to_list (sym c.take.ensures.value ∙ c.in-Some.is)) c.in-Err.ensures.full.1 c.in-Err.ensures.full.0

pub returns-in_default-put : goal.returns-in_default-put
returns-in_default-put g c =
    is_put _ _ _ _ c.self.view_is c.requires.desk c.in-Some.event c.put.new.lane c.take.new.self
    (ap option_to_list (sym c.take.ensures.value ∙ c.in-Some.is)) c.in_default-put.ensures.ok c.take.ensures.after
