-- What is asked by words that are no command, and by a number.
use Rattle.std.proofs.Common.{◌≡◌, ℕ, Bool, List, Option, Some, Result, Ok, Err, IfOk, inr, refl, sym, subst, lit≤}
use Rattle.mono_words.specs.declared.mono.TheConstants.{VARS}
use Rattle.system_parser.specs.Made.{made_system}
use Rattle.system_text.specs.Laws.{IsSystem}
use Rattle.tri_io.specs.Commands.{Options, IsCommand}
use Rattle.report_text.specs.declared.status.Status.{Status}
use Rattle.run_rules.specs.Programs.{Ending, IsExpected, IsNoCommand}
use Rattle.case_tree.specs.Systems.{CaseSystem, IsSolvable}
use Rattle.solver_rules.specs.Asked.{IsLine, AreCases}
use Rattle.solver_rules.specs.Solver.{ending_of_system, solver}
use Rattle.solver_rules.specs.Solved.{WasReadOrMade}
use Rattle.solver_rules.proofs.Made.{made_expected}
use Rattle.solver_inputs.specs.Asks.{IsAsked}
use Rattle.solver_inputs.specs.declared.asked.Asked.{Asked}
use Rattle.solver_inputs.specs.declared.asked.Asked.TheVariants.{Line, System}

module _ (with_workers : Bool) (words : List (List ℕ)) (told : Option (List ℕ)) where
  -- the usage line
  usage_is_line : IsNoCommand (solver with_workers VARS) words → IsLine with_workers words told (solver with_workers VARS).usage
  usage_is_line none = record {
    expected = inr (none, refl);
    kind = (0, lit≤ tt, refl);
    usage = λ e. none;
  }

  pub usage_asked : {E : Type 0} (made : Result Asked E) → IsNoCommand (solver with_workers VARS) words → IfOk made (λ asked. asked ≡ Line (solver with_workers VARS).usage) → IfOk made (IsAsked with_workers words told)
  usage_asked (Ok asked) none is = subst (IsAsked with_workers words told) (sym is) (usage_is_line none)
  usage_asked (Err e) none is = tt

  -- the cases of a system that was made
  pub made_asked : (options : Options) (k : ℕ) (cases : CaseSystem) → IsCommand with_workers words options → options.made ≡ Some k → cases.system ≡ made_system VARS k → cases.width ≡ options.width → IsSystem VARS cases.system → IsSolvable cases.system → AreCases with_workers words told options cases
  made_asked options k cases command made same width lawful solvable = record {
    of_command = record {
      command = command;
      origin = subst (λ m. WasReadOrMade VARS m told cases.system) (sym made) same;
    };
    lawful = lawful;
    solvable = solvable;
    width = width;
    expected = subst (λ system. IsExpected (solver with_workers VARS) words told (ending_of_system VARS options system)) (sym same) (made_expected with_workers words options command k made told);
  }

  -- what is asked is this line
  pub line_asked : (asked : Asked) (ending : Ending Status) → asked ≡ Line ending → IsAsked with_workers words told asked → IsLine with_workers words told ending
  line_asked asked ending is of = subst (IsAsked with_workers words told) is of

  -- what is asked are these cases
  pub cases_asked : (asked : Asked) (options : Options) (cases : CaseSystem) → asked ≡ System options cases → IsAsked with_workers words told asked → AreCases with_workers words told options cases
  cases_asked asked options cases is of = subst (IsAsked with_workers words told) is of
