-- The rows so far, and those of the turns that are left, are all.
use Rattle.std.proofs.Common.{◌-◌}
use Rattle.subresultants.proofs.Sequences.{IsSequence}
use Rattle.subresultants.proofs.sequence.rows_of.Given as goal

abbrev pub invariant-loop : goal.invariant-loop
invariant-loop l = IsSequence l.w.field l.w.width l.v l.chain l.fn.first l.fn.second (l.turns - l.counter) l.memory l.before l.last l.leads
