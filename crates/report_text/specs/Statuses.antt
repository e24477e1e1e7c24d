-- The numbers of the statuses.
use Rattle.std.specs.Prelude.{ℕ}
use Rattle.report_text.specs.declared.status.Status.{Status}
use Rattle.report_text.specs.declared.status.Status.TheVariants.{Chains, Stopped, Usage, Refused, ReadFault, WriteFault, OutOfMemory}

-- the number that a program ends with
abbrev pub status_number : Status → ℕ
status_number Chains = 0
status_number Stopped = 1
status_number Usage = 2
status_number Refused = 3
status_number ReadFault = 4
status_number WriteFault = 5
status_number OutOfMemory = 6
