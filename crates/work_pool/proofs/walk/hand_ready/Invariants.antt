use Rattle.std.proofs.Common.{length, ℕ, List}
use Rattle.std.specs.List.{AllByRecursion}
use Rattle.collector.specs.Notes.{IsCollector, IsNoted, to_give}
use Rattle.work_pool.specs.Taken.{HandsOn}
use Rattle.work_pool.proofs.walk.hand_ready.Given as goal

abbrev pub invariant-loop-path : goal.invariant-loop-path
invariant-loop-path g l = record {
  walk : IsCollector g.N.Named.events l.collector;
  notes : (path : List ℕ) → IsNoted g.N.Named.events l.fn.collector path → IsNoted g.N.Named.events l.collector path;
  may : AllByRecursion (λ (pair : List ℕ × _). g.K.Taker.may l.each pair.1) (to_give g.N.Named.events l.collector).chains;
  hands : HandsOn g.K.Taker.takes g.K.Taker.fails l.each (to_give g.N.Named.events l.collector) l.fn.each (to_give g.N.Named.events l.fn.collector);
}

abbrev pub decreases-loop-path : goal.decreases-loop-path
decreases-loop-path g l = length (to_give g.N.Named.events l.collector).chains
