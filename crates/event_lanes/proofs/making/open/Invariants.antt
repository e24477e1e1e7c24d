-- So many lanes may be made.
use Rattle.std.proofs.Common.{◌≡◌, []}
use Rattle.event_lanes.specs.Passes.{known, drain_pass, IsPassAt}
use Rattle.event_lanes.proofs.making.open.Given as goal

abbrev pub invariant-loop : goal.invariant-loop
invariant-loop g l = IsPassAt l.hub.name l.pass × (known l.pass ≡ drain_pass l.counter 0 [] [])
