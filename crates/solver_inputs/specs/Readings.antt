-- What an input was read to.
use Rattle.std.specs.Prelude.{◌≡◌, ℕ, Result, Ok, Err}
use Rattle.mono_words.specs.declared.mono.TheConstants.{VARS}
use Rattle.system_text.specs.Faults.{Refusal}
use Rattle.system_text.specs.Laws.{IsSystem}
use Rattle.system_text.specs.Lines.{TextSystem, read_text}
use Rattle.tri_io.specs.declared.input.Input.{Input}
use Rattle.tri_io.specs.declared.input.Input.TheVariants.{Whole, TooLong}
use Rattle.report_text.specs.Lines.{refused_line, too_long_line}
use Rattle.case_tree.specs.Systems.{CaseSystem, IsSolvable}
use Rattle.solver_rules.specs.Solver.{refusal}
use Rattle.solver_inputs.specs.declared.input.Reading.{Reading}
use Rattle.solver_inputs.specs.declared.input.Reading.TheVariants as reading

-- the cases of this system, which can be solved, with this width
pub record AreReadCases (width : ℕ) (system : TextSystem) (cases : CaseSystem) : Type 0 where
  pub same : cases.system ≡ system
  pub width_is : cases.width ≡ width
  pub lawful : IsSystem VARS cases.system
  pub solvable : IsSolvable cases.system

-- what was read of a text: the cases of its system, or the line that refuses it
abbrev pub IsReadingOf : ℕ → Result TextSystem Refusal → Reading → Type 0
IsReadingOf width (Ok system) (reading.System cases) = AreReadCases width system cases
IsReadingOf width (Ok system) (reading.Refused ending) = ⊥
IsReadingOf width (Err e) (reading.System cases) = ⊥
IsReadingOf width (Err e) (reading.Refused ending) =
    ending ≡ refusal (refused_line e.number e.line e.byte)

-- what was read of an input
abbrev pub IsReadOf : ℕ → Input → Reading → Type 0
IsReadOf width (Whole bytes) read = IsReadingOf width (read_text VARS bytes.items) read
IsReadOf width TooLong (reading.System cases) = ⊥
IsReadOf width TooLong (reading.Refused ending) = ending ≡ refusal too_long_line
