-- The solver as a program: how it ends on the bytes of an input, or on a made system.
use Rattle.std.specs.Prelude.{ℕ, Bool, cond, List, Option, Some, None, is_none, Result, Ok, Err}
use Rattle.mono_words.specs.declared.mono.TheConstants.{VARS}
use Rattle.system_text.specs.Faults.{Refusal}
use Rattle.system_text.specs.Lines.{TextSystem, read_text}
use Rattle.system_parser.specs.Made.{made_system}
use Rattle.tri_io.specs.Commands.{Options, IsCommand}
use Rattle.report_text.specs.declared.status.Status.{Status}
use Rattle.report_text.specs.declared.status.Status.TheVariants.{Chains, Stopped, Usage, Refused, ReadFault, WriteFault, OutOfMemory}
use Rattle.report_text.specs.Lines.{refused_line, too_long_line, usage_line}
use Rattle.report_text.specs.Answers.{answer_text, is_stopped, summary_text}
use Rattle.run_rules.specs.Programs.{Ending, Program}
use Rattle.split_paths.specs.Answer.{Answer}
use Rattle.finish_rules.specs.Leaves.{Leaf}
use Rattle.case_laws.specs.Laws.{answer_to}
use Rattle.case_tree.specs.Systems.{polynomial_system_of}

-- the answer to a system, in n exponents, by the options: that of its tree of cases
abbrev pub answer_of_system : ℕ → Options → TextSystem → Answer Leaf
answer_of_system n options system =
    answer_to n options.width options.steps (polynomial_system_of system)

-- what is written of the answer to a system: its text, or its summary where the system was made
-- from a number
abbrev pub written_text : Option ℕ → TextSystem → Answer Leaf → List ℕ
written_text None system answer = answer_text system.names system.nonzero answer
written_text (Some k) system answer = summary_text k answer

-- on a system: with what is written of its answer
abbrev pub ending_of_system : ℕ → Options → TextSystem → Ending Status
ending_of_system n options system =
    let answer = answer_of_system n options system in
    record {
      status = cond (is_stopped answer.stop) Stopped Chains;
      text = written_text options.made system answer;
    }

-- with a refusal
abbrev pub refusal : List ℕ → Ending Status
refusal text = record { status = Refused; text = text }

-- the system of a command: the one that is made from a number, or else the one of an input
abbrev pub system_of : ℕ → Option ℕ → List ℕ → Result TextSystem Refusal
system_of n None bytes = read_text n bytes
system_of n (Some k) bytes = Ok (made_system n k)

-- by what is read of a text
abbrev pub ending_of_reading : ℕ → Options → Result TextSystem Refusal → Ending Status
ending_of_reading n options (Ok system) = ending_of_system n options system
ending_of_reading n options (Err e) = refusal (refused_line e.number e.line e.byte)

-- the solver, on one thread or with workers, over polynomials in n exponents
abbrev pub solver : Bool → ℕ → Program Options Status
solver with_workers n = record {
  IsCommand = IsCommand with_workers;
  reads = λ options. is_none options.made;
  ending = λ options bytes. ending_of_reading n options (system_of n options.made bytes);
  too_long = refusal too_long_line;
  usage = record { status = Usage; text = usage_line with_workers };
  read_fault = ReadFault;
  write_fault = WriteFault;
  out_of_memory = OutOfMemory;
}
