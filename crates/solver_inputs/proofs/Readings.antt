-- What is asked by what was read.
use Rattle.std.proofs.Common.{◌≡◌, ℕ, Bool, true, List, Option, None, Result, Ok, Err, refl, sym, ap, ◌∙◌, subst, lit≤}
use Rattle.std.specs.Prelude.{is_none}
use Rattle.mono_words.specs.declared.mono.TheConstants.{VARS}
use Rattle.system_text.specs.Faults.{Refusal}
use Rattle.system_text.specs.Lines.{TextSystem, read_text}
use Rattle.tri_io.specs.Commands.{Options, IsCommand}
use Rattle.tri_io.specs.Transfers.{ReadsAll}
use Rattle.tri_io.specs.declared.input.Input.{Input}
use Rattle.tri_io.specs.declared.input.Input.TheVariants.{Whole, TooLong}
use Rattle.report_text.specs.declared.status.Status.{Status}
use Rattle.report_text.specs.Lines.{refused_line, too_long_line}
use Rattle.run_rules.specs.Programs.{Ending, IsInput, ending_of_input, most_bytes}
use Rattle.run_rules.proofs.Inputs.{input_expected, whole_is_input}
use Rattle.case_tree.specs.Systems.{CaseSystem}
use Rattle.solver_rules.specs.Asked.{IsLine, AreCases}
use Rattle.solver_rules.specs.Solver.{ending_of_reading, ending_of_system, refusal, solver, system_of}
use Rattle.solver_rules.specs.Solved.{WasReadOrMade}
use Rattle.solver_rules.proofs.Answered.{ends_by_reading}
use Rattle.solver_rules.proofs.Statuses.{refused_not_usage}
use Rattle.solver_inputs.specs.Readings.{AreReadCases, IsReadingOf, IsReadOf}
use Rattle.solver_inputs.specs.declared.input.Reading.{Reading}
use Rattle.solver_inputs.specs.declared.input.Reading.TheVariants as reading

module _ (with_workers : Bool) (words : List (List ℕ)) (told left : Option (List ℕ)) (options : Options) (command : IsCommand with_workers words options) (reads : options.made ≡ None) where
  -- what is asked with these options, by what was read
  abbrev pub IsAskedBy : Options → Reading → Type 0
  IsAskedBy these (reading.System cases) = AreCases with_workers words told these cases
  IsAskedBy these (reading.Refused ending) = IsLine with_workers words told ending

  -- a refusal is a line
  refusal_is_line : (input : Input) (ending : Ending Status) (text : List ℕ) → ReadsAll most_bytes told left (Ok input) → ending ≡ refusal text → ending ≡ ending_of_input (solver with_workers VARS) options input → IsLine with_workers words told ending
  refusal_is_line input ending text read is same = record {
    expected = input_expected (solver with_workers VARS) words options command (ap is_none reads) told left input ending read same;
    kind = (1, lit≤ tt, sym (ap (λ e. e.status) is));
    usage = λ e. refused_not_usage ending.status (ap (λ e. e.status) is) e;
  }

  -- the cases of a system that was read
  read_cases : (input : Input) (bytes : List ℕ) (system : TextSystem) (cases : CaseSystem) → ReadsAll most_bytes told left (Ok input) → IsInput true told bytes → ending_of_input (solver with_workers VARS) options input ≡ ending_of_reading VARS options (system_of VARS options.made bytes) → read_text VARS bytes ≡ Ok system → AreReadCases options.width system cases → AreCases with_workers words told options cases
  read_cases input bytes system cases read given ends is of =
      let reading = is ∙ ap (λ s. Ok s) (sym of.same) in record {
        of_command = record {
          command = command;
          origin = subst (λ made. WasReadOrMade VARS made told cases.system) (sym reads) (record { bytes = bytes; input = given; read = reading });
        };
        lawful = of.lawful;
        solvable = of.solvable;
        width = of.width_is;
        expected =
            input_expected (solver with_workers VARS) words options command (ap is_none reads) told left input (ending_of_system VARS options cases.system) read
            (sym (ends ∙ ends_by_reading options bytes reads ∙ ap (ending_of_reading VARS options) reading));
      }

  -- by what was read of some bytes
  text_asked : (input : Input) (bytes : List ℕ) (text : Result TextSystem Refusal) (read_as : Reading) → ReadsAll most_bytes told left (Ok input) → IsInput true told bytes → ending_of_input (solver with_workers VARS) options input ≡ ending_of_reading VARS options (system_of VARS options.made bytes) → read_text VARS bytes ≡ text → IsReadingOf options.width text read_as → IsAskedBy options read_as
  text_asked input bytes (Ok system) (reading.System cases) read given ends is of = read_cases input bytes system cases read given ends is of
  text_asked input bytes (Ok system) (reading.Refused ending) read given ends is of = absurd of
  text_asked input bytes (Err e) (reading.System cases) read given ends is of = absurd of
  text_asked input bytes (Err e) (reading.Refused ending) read given ends is of =
      refusal_is_line input ending (refused_line e.number e.line e.byte) read of
      (of ∙ sym (ends ∙ ends_by_reading options bytes reads ∙ ap (ending_of_reading VARS options) is))

  -- by what was read of the source
  whole_asked : (input : Input) (read_as : Reading) → ReadsAll most_bytes told left (Ok input) → IsReadOf options.width input read_as → IsAskedBy options read_as
  whole_asked (Whole bytes) read_as read is = text_asked (Whole bytes) bytes.items (read_text VARS bytes.items) read_as read (whole_is_input told left (Whole bytes) read) refl refl is
  whole_asked TooLong (reading.System cases) read is = absurd is
  whole_asked TooLong (reading.Refused ending) read is = refusal_is_line TooLong ending too_long_line read is is

  -- by what was read with these options, which are the same
  pub input_asked : (these : Options) (input : Input) (read_as answered : Reading) → these ≡ options → read_as ≡ answered → ReadsAll most_bytes told left (Ok input) → IsReadOf these.width input read_as → IsAskedBy options answered
  input_asked these input read_as answered same is read of = subst (IsAskedBy options) is (whole_asked input read_as read (subst (λ (o : Options). IsReadOf o.width input read_as) same of))
