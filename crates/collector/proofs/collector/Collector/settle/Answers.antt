-- The next path is the first of those that are to be met, if there is one.
use Rattle.std.proofs.Common.{refl}
use Rattle.collector.proofs.Moves.{goes_next, goes_home}
use Rattle.collector.proofs.collector.Collector.settle.Goals as goal

pub returns-then-not-go_on-clause-stays : goal.returns-then-not-go_on-clause-stays
returns-then-not-go_on-clause-stays g c =
    goes_home g.N.Named.events _ _ _ c.self.view_is c.requires c.in-Passed.is refl refl
    c.if-not-go_on.ensures.later.0 c.if-not-go_on.ensures.later.2

pub returns-clause-stays : goal.returns-clause-stays
returns-clause-stays g c =
    goes_next g.N.Named.events _ _ _ c.self.view_is c.requires c.in-Passed.is refl refl c.if-not-go_on.ensures.later
