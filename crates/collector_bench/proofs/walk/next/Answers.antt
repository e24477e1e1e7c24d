use Rattle.split_paths.specs.Key.{IsTrueEvent}
use Rattle.collector_bench.proofs.Keys.{all_but_last}
use Rattle.collector_bench.proofs.walk.next.Goals as goal

pub returns-in-Reverse-clause-left : goal.returns-in-Reverse-clause-left
returns-in-Reverse-clause-left g c =
    (all_but_last (IsTrueEvent g.N.Named.events) _ _ _ c.requires c.take_last.ensures.item c.take_last.ensures.none).0

pub returns-in-Reverse-clause-event : goal.returns-in-Reverse-clause-event
returns-in-Reverse-clause-event g c =
    (all_but_last (IsTrueEvent g.N.Named.events) _ _ _ c.requires c.take_last.ensures.item c.take_last.ensures.none).1
