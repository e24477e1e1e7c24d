use Rattle.std.proofs.Common.{◌≡◌, map}
use Rattle.event_lanes.specs.declared.rule.Post.{Post}
use Rattle.split_paths.specs.declared.event.Event.{Event}
use Rattle.collector.specs.Notes.{IsCollector, Keeps}
use Rattle.work_pool.specs.Noting.{AreNoted}
use Rattle.work_pool.proofs.rest.note_waiting.Given as goal

abbrev pub invariant-loop : goal.invariant-loop
invariant-loop g l = record {
  hub : l.drain.hub ≡ l.hub.name;
  drain : (l.drain.hub ≡ l.fn.drain.hub) × (l.drain.made ≡ l.fn.drain.made) × (l.drain.backs ≡ l.fn.drain.backs);
  walk : IsCollector g.N.Named.events l.collector;
  keeps : Keeps g.N.Named.events l.fn.collector l.collector;
  noted : AreNoted g.N.Named.events l.collector (map (λ (post : Post (Event _)). post.item) l.drain.taken);
}
