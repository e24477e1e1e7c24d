-- What the walk answers where it stands, after moves that hand out nothing.
use Rattle.std.proofs.Common.{sym, ap, ◌∙◌}
use Rattle.collector.specs.Notes.{Notes}
use Rattle.collector.proofs.Moves.{stays_advances}
use Rattle.collector.proofs.Ends.{waits, is_stopped, is_finished, stands_here}
use Rattle.collector.proofs.collector.Collector.visit.Goals as goal

pub returns-in-Ended : goal.returns-in-Ended
returns-in-Ended g c =
    stays_advances g.N.Named.events _ _ _ _ c.settle.ensures.stays
    (is_finished g.N.Named.events _ c.settle.ensures.stays.walk
    (sym (ap (λ (n : Notes _). n.position) c.self.view_is) ∙ c.in-Ended.is))

pub returns-in_default-met_here : goal.returns-in_default-met_here
returns-in_default-met_here g c =
    stays_advances g.N.Named.events _ _ _ _ c.settle.ensures.stays
    (waits g.N.Named.events _ c.settle.ensures.stays.walk
    (stands_here _ c.settle.ensures.settled (λ e. c.in_default.not-Ended (ap (λ (n : Notes _). n.position) c.self.view_is ∙ e)))
    (sym c.in_default-met_here.ensures))

pub returns-in-Some-stop : goal.returns-in-Some-stop
returns-in-Some-stop g c =
    stays_advances g.N.Named.events _ _ _ _ c.settle.ensures.stays
    (is_stopped g.N.Named.events _ c.in-Some.met.now c.in-Some-stop.why c.settle.ensures.stays.walk
    (stands_here _ c.settle.ensures.settled (λ e. c.in_default.not-Ended (ap (λ (n : Notes _). n.position) c.self.view_is ∙ e)))
    (sym c.in-Some.ensures) (sym c.in-Some-stop.ensures))
