-- With those to come, the lanes so far are all that are given back.
use Rattle.std.proofs.Common.{◌≡◌, length}
use Rattle.std.specs.List.{AllByRecursion}
use Rattle.std.specs.Vec.Iter.{into_iter_items, into_iter_len}
use Rattle.event_lanes.specs.Views.{LaneView, with_backs}
use Rattle.event_lanes.proofs.hub.Hub.finish.Given as goal

abbrev pub invariant-loop-lane : goal.invariant-loop-lane
invariant-loop-lane g l =
    (l.reader.hub ≡ l.self.name)
    × AllByRecursion (λ (lane : LaneView _). lane.hub ≡ l.self.name) (into_iter_items l.lane-iterator)
    × (into_iter_len l.lane-iterator ≡ length (into_iter_items l.lane-iterator))
    × (with_backs l.reader (into_iter_items l.lane-iterator) ≡ with_backs l.fn.drain l.fn.lanes.items)
