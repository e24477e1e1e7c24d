-- The lanes so far are numbered, and the next has the next number
use Rattle.std.proofs.Common.{◌≡◌, []}
use Rattle.event_lanes.specs.Passes.{known, drain_pass, IsPassAt}
use Rattle.event_lanes.proofs.Dealing.{AreDealt}
use Rattle.event_lanes.proofs.making.deal.Given as goal

abbrev pub invariant-loop-number : goal.invariant-loop-number
invariant-loop-number g l =
    IsPassAt l.hub.name l.pass × (known l.pass ≡ drain_pass l.count l.number [] []) × AreDealt l.hub l.lanes.items l.count l.number
