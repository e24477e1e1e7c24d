-- The first `done` bytes were taken, and a sink that is given nothing stays as it was.
use Rattle.std.proofs.Common.{length, take, [], ◌-◌, ◌≡◌, ◌≤◌}
use Rattle.std.specs.Io.KnownBytes.{Appends}
use Rattle.tri_io.proofs.output.write_all.Given as goal

abbrev pub invariant-loop-done : goal.invariant-loop-done
invariant-loop-done g l =
    (l.done ≤ length l.bytes)
    × Appends (g.K.Sink.taken l.initial.sink) (g.K.Sink.taken l.sink) (take l.done l.bytes)
    × (g.K.Sink.faults l.sink ≡ g.K.Sink.faults l.initial.sink)
    × (l.bytes ≡ [] → l.sink ≡ l.initial.sink)

abbrev pub decreases-loop-done : goal.decreases-loop-done
decreases-loop-done g l = length l.bytes - l.done
