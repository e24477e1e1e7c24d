-- How a command ends that reads a system.
use Rattle.std.proofs.Common.{◌≡◌, ◌≢◌, ℕ, true, false, cond, Bool, List, None, ap}
use Rattle.mono_words.specs.declared.mono.TheConstants.{VARS}
use Rattle.system_text.specs.Lines.{read_text}
use Rattle.tri_io.specs.Commands.{Options}
use Rattle.report_text.specs.declared.status.Status.TheVariants.{Chains, Stopped, Usage, ReadFault, WriteFault}
use Rattle.solver_rules.specs.Solver.{ending_of_reading, system_of}

-- a command that makes no system ends by what is read
pub ends_by_reading : (options : Options) (bytes : List ℕ) → options.made ≡ None → ending_of_reading VARS options (system_of VARS options.made bytes) ≡ ending_of_reading VARS options (read_text VARS bytes)
ends_by_reading options bytes reads = ap (λ made. ending_of_reading VARS options (system_of VARS made bytes)) reads

-- no system ends with the usage line
pub system_not_usage : (stopped : Bool) → cond stopped Stopped Chains ≢ Usage
system_not_usage true = λ e. cc
system_not_usage false = λ e. cc

-- nor with a fault of a write
pub system_not_fault : (stopped : Bool) → cond stopped Stopped Chains ≢ WriteFault
system_not_fault true = λ e. cc
system_not_fault false = λ e. cc

-- nor with one of a read
pub system_not_read_fault : (stopped : Bool) → cond stopped Stopped Chains ≢ ReadFault
system_not_read_fault true = λ e. cc
system_not_read_fault false = λ e. cc
