use Rattle.std.proofs.Common.{ap, subst}
use Rattle.split_paths.specs.Key.{IsTrueEvent}
use Rattle.event_lanes.specs.Posts.{AllTaken}
use Rattle.event_lanes.specs.Views.{DrainView, HeldBeside, pass_of_drain}
use Rattle.event_lanes.proofs.Posting.{takes}
use Rattle.event_lanes.proofs.Lessons.{stands, all_taken_at, held_beside}
use Rattle.event_lanes.proofs.drain.Reader.take.Goals as goal

pub pop_as-requires-clause-rule : goal.pop_as-requires-clause-rule
pop_as-requires-clause-rule g c =
    (takes (IsTrueEvent g.N.Named.events) _ _ (ap (λ v. v.drains) c.self.invariant.1), stands (IsTrueEvent g.N.Named.events) _ _)

-- the queue was empty beside what the pass knows
pub returns-in_default-clause-empty : goal.returns-in_default-clause-empty
returns-in_default-clause-empty g c =
    subst (λ drain. HeldBeside g.N.Named.events (pass_of_drain drain) 0) c.self.view_is
    (subst (λ v. HeldBeside g.N.Named.events v 0) c.self.invariant.1
    (held_beside g.N.Named.events _ 0 c.in_default.ensures.rule.1))

pub returns-in_default-clause-all : goal.returns-in_default-clause-all
returns-in_default-clause-all g c =
    subst (λ (drain : DrainView _). AllTaken drain.made drain.taken drain.backs) c.self.view_is
    (all_taken_at (IsTrueEvent g.N.Named.events) _ (ap (λ v. v.drains) c.self.invariant.1) c.in_default.ensures.rule.1)
