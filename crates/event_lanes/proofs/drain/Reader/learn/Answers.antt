use Rattle.std.proofs.Common.{ap, sym, subst}
use Rattle.split_paths.specs.Key.{IsTrueEvent}
use Rattle.event_lanes.specs.Posts.{ArePrefixes}
use Rattle.event_lanes.specs.declared.rule.View.{View}
use Rattle.event_lanes.proofs.Lessons.{begins_each}
use Rattle.event_lanes.proofs.drain.Reader.learn.Goals as goal

pub returns-clause-prefixes : goal.returns-clause-prefixes
returns-clause-prefixes g c =
    subst (λ (v : View _). ArePrefixes v.taken v.backs) (sym c.learn_as.ensures.queue.1)
    (begins_each (IsTrueEvent g.N.Named.events) _ c.learn_as.ensures.rule.0 (ap (λ v. v.drains) c.self.invariant.1) c.learn_as.ensures.rule.1)
