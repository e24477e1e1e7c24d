-- What is asked of the solver by its words and its input: a line alone, or the cases of a system.
use Rattle.std.specs.Prelude.{◌≡◌, ℕ, Bool, List, [], ◌∷◌, Option, Contains}
use Rattle.mono_words.specs.declared.mono.TheConstants.{VARS}
use Rattle.system_text.specs.Laws.{IsSystem}
use Rattle.tri_io.specs.Commands.{Options}
use Rattle.report_text.specs.declared.status.Status.{Status}
use Rattle.report_text.specs.declared.status.Status.TheVariants.{Usage, Refused}
use Rattle.run_rules.specs.Programs.{Ending, IsExpected, IsNoCommand}
use Rattle.case_tree.specs.Systems.{CaseSystem, IsSolvable}
use Rattle.solver_rules.specs.Solver.{ending_of_system, solver}
use Rattle.solver_rules.specs.Solved.{HasSystem}

module _ (with_workers : Bool) (words : List (List ℕ)) (told : Option (List ℕ)) where
  -- the run is to end with this line: the words are no command, or the input is no system
  pub record IsLine (ending : Ending Status) : Type 0 where
    pub expected : IsExpected (solver with_workers VARS) words told ending
    pub kind : Contains (Usage ∷ Refused ∷ []) ending.status
    pub usage : ending.status ≡ Usage → IsNoCommand (solver with_workers VARS) words

  -- the words are this command, and these are the cases of its system
  pub record AreCases (options : Options) (cases : CaseSystem) : Type 0 where
    pub of_command : HasSystem with_workers VARS words told options cases.system
    pub lawful : IsSystem VARS cases.system
    pub solvable : IsSolvable cases.system
    pub width : cases.width ≡ options.width
    pub expected :
        IsExpected (solver with_workers VARS) words told
        (ending_of_system VARS options cases.system)
