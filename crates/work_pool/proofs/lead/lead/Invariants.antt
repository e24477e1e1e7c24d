-- What was noted and handed out so far, and what the first worker did.
use Rattle.std.proofs.Common.{◌≡◌, ℕ, List, map}
use Rattle.std.specs.List.{AllByRecursion}
use Rattle.collector.specs.Notes.{IsCollector, to_give}
use Rattle.event_lanes.specs.declared.rule.Post.{Post}
use Rattle.split_paths.specs.declared.event.Event.{Event}
use Rattle.work_pool.specs.Noting.{AreNoted}
use Rattle.work_pool.specs.Taken.{HandsOn}
use Rattle.work_pool.specs.Works.{IsAtWork, Works}
use Rattle.work_pool.proofs.lead.lead.Given as goal

abbrev pub invariant-loop : goal.invariant-loop
invariant-loop g l = record {
  desk : IsAtWork g.N.Named.events g.N.Named.offers l.desk;
  lane : l.desk.lane.hub ≡ l.hub.name;
  works : Works g.N.Named.events g.N.Named.offers (g.X.Splitter.step l.splitter) l.fn.desk l.desk;
  hub : l.drain.hub ≡ l.hub.name;
  drain : (l.drain.hub ≡ l.fn.drain.hub) × (l.drain.made ≡ l.fn.drain.made) × (l.drain.backs ≡ l.fn.drain.backs);
  walk : IsCollector g.N.Named.events l.collector;
  noted : AreNoted g.N.Named.events l.collector (map (λ (post : Post (Event _)). post.item) l.drain.taken);
  may : AllByRecursion (λ (pair : List ℕ × _). g.K.Taker.may l.each pair.1) (to_give g.N.Named.events l.collector).chains;
  hands : HandsOn g.K.Taker.takes g.K.Taker.fails l.each (to_give g.N.Named.events l.collector) l.fn.each (to_give g.N.Named.events l.fn.collector);
}
