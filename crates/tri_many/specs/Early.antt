-- How a run ends whose answer is written as it comes.
use Rattle.std.specs.Prelude.{◌≡◌, ◌⊎◌, ℕ, Bool, true, false, cond, List, ◌++◌, length, Option, Result, Ok, Err}
use Rattle.std.specs.List.{flat_map}
use Rattle.std.specs.Io.KnownBytes.{Appends}
use Rattle.tri_io.specs.Faults.{Rose}
use Rattle.tri_io.specs.Transfers.{AppendsPart}
use Rattle.split_paths.specs.Answer.{Answer}
use Rattle.finish_rules.specs.Leaves.{Leaf}
use Rattle.report_text.specs.declared.status.Status.{Status}
use Rattle.report_text.specs.declared.status.Status.TheVariants.{Chains, Stopped, WriteFault, OutOfMemory}
use Rattle.report_text.specs.Answers.{count_polys, is_stopped, leaf_text}
use Rattle.report_text.specs.Lines.{end_line, stopped_line, summary_lines}
use Rattle.run_rules.specs.Programs.{Ending}
use Rattle.run_rules.specs.Runs.{Writes}
use Rattle.work_pool.specs.declared.taker.End.{End}
use Rattle.work_pool.specs.declared.taker.End.TheVariants as end
use Rattle.work_pool.specs.Taken.{IsEnd}
use Rattle.tri_many.specs.declared.counter.Counter.{Counter}
use Rattle.tri_many.specs.declared.output.Fault.{Fault}
use Rattle.tri_many.specs.declared.output.Fault.TheVariants as fault
use Rattle.tri_many.specs.Many.{many}

-- the text was written whole, and it is known whether the answer was stopped
abbrev pub HasWritten : List ℕ → Answer Leaf → Option (List ℕ) → Option (List ℕ) → Bool → Type 0
HasWritten text answer old new stopped =
    Appends old new text × (stopped ≡ is_stopped answer.stop)

-- a part of the text was written; where a write failed a fault was counted, and else none was
abbrev pub IsCutShort : List ℕ → ℕ → ℕ → Option (List ℕ) → Option (List ℕ) → Fault → Type 0
IsCutShort text before after old new fault.Memory =
    (after ≡ before) × AppendsPart old new text
IsCutShort text before after old new fault.Write =
    Rose before after × AppendsPart old new text

-- the chains were written, so many, and this is how the answer ends
pub record HasPrinted (names : List (List ℕ)) (answer : Answer Leaf) (old new : Option (List ℕ))
    (printed : ℕ × End) : Type 0 where
  pub text : Appends old new (flat_map (leaf_text names) answer.chains)
  pub count : printed.0 ≡ length answer.chains
  pub ended : IsEnd answer.stop printed.1

-- the chains and their polynomials were counted, and this is how the answer ends
pub record HasCounted (answer : Answer Leaf) (counted : Counter × End) : Type 0 where
  pub chains : counted.0.chains ≡ length answer.chains
  pub polys : counted.0.polys ≡ count_polys answer.chains
  pub ended : IsEnd answer.stop counted.1

-- an ending was written, whole or in part; or there was no memory, and a part of it was written
abbrev pub WritesEarly : Ending Status → Type 0 → Option (List ℕ) → Option (List ℕ) → Status
    → Type 0
WritesEarly ending sink_rose old new status =
    Writes many ending sink_rose old new status
    ⊎ ((status ≡ OutOfMemory) × AppendsPart old new ending.text)

-- the status of a run whose answer was written, stopped or not, or cut short
abbrev pub status_of : Result Bool Fault → Status
status_of (Ok stopped) = cond stopped Stopped Chains
status_of (Err fault.Write) = WriteFault
status_of (Err fault.Memory) = OutOfMemory

-- a branch was stopped
abbrev pub is_stopped_at : End → Bool
is_stopped_at end.Finished = false
is_stopped_at (end.Stopped path why) = true

-- the last line of an answer with so many chains
abbrev pub end_line_of : ℕ → End → List ℕ
end_line_of count end.Finished = end_line count
end_line_of count (end.Stopped path why) = stopped_line path why

-- the summary of an answer with so many chains and polynomials
abbrev pub summary_lines_of : ℕ → ℕ → ℕ → End → List ℕ
summary_lines_of k chains polys end.Finished = summary_lines k chains polys
summary_lines_of k chains polys (end.Stopped path why) =
    summary_lines k chains polys ++ stopped_line path why
