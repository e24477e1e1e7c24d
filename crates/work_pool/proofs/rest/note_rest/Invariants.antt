use Rattle.std.proofs.Common.{◌≡◌, length, map}
use Rattle.event_lanes.specs.declared.rule.Post.{Post}
use Rattle.split_paths.specs.declared.event.Event.{Event}
use Rattle.collector.specs.Notes.{IsCollector, Keeps}
use Rattle.work_pool.specs.Noting.{AreNoted}
use Rattle.work_pool.proofs.rest.note_rest.Given as goal

abbrev pub invariant-loop : goal.invariant-loop
invariant-loop g l = record {
  hub : l.rest.hub ≡ l.hub.name;
  made : l.rest.made ≡ l.fn.rest.made;
  backs : l.rest.backs ≡ l.fn.rest.backs;
  walk : IsCollector g.N.Named.events l.collector;
  keeps : Keeps g.N.Named.events l.fn.collector l.collector;
  noted : AreNoted g.N.Named.events l.collector (map (λ (post : Post (Event _)). post.item) l.rest.taken);
}
