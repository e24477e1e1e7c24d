-- What is asked has its ending.
use Rattle.std.proofs.Common.{◌≡◌, ◌≢◌, ℕ, Bool, List, Option, inl, inr, sym, ap, ◌∙◌, subst}
use Rattle.mono_words.specs.declared.mono.TheConstants.{VARS}
use Rattle.tri_io.specs.Commands.{Options}
use Rattle.report_text.specs.declared.status.Status.{Status}
use Rattle.report_text.specs.declared.status.Status.TheVariants.{Usage}
use Rattle.run_rules.specs.Programs.{Ending, IsExpected, IsNoCommand}
use Rattle.case_tree.specs.Systems.{CaseSystem}
use Rattle.solver_rules.specs.Solver.{ending_of_system, solver}
use Rattle.solver_rules.specs.Solved.{IsAnswered, IsOfSystem}
use Rattle.solver_rules.specs.Asked.{IsLine, AreCases}
use Rattle.solver_rules.proofs.Answered.{system_not_usage}
use Rattle.solver_rules.proofs.Statuses.{line_not_system}

module _ (with_workers : Bool) (words : List (List ℕ)) (told : Option (List ℕ)) where
  -- a line answers no system
  pub line_answered : (ending : Ending Status) → IsLine with_workers words told ending → IsOfSystem ending.status → IsAnswered with_workers VARS words told ending
  line_answered ending line status = line_not_system ending.status line.kind status

  -- words that are no command end with the usage line
  pub ends_with_usage : (ending : Ending Status) → IsExpected (solver with_workers VARS) words told ending → IsNoCommand (solver with_workers VARS) words → ending.status ≡ Usage
  ends_with_usage ending (inl h) none = absurd (none h.options h.command)
  ends_with_usage ending (inr h) none = ap (λ e. e.status) h.1

  module _ (options : Options) (cases : CaseSystem) (are : AreCases with_workers words told options cases) where
    -- cases are those of a command
    pub are_of_command : IsNoCommand (solver with_workers VARS) words → ⊥
    are_of_command none = none options are.of_command.command

    module _ (ending : Ending Status) (same : ending ≡ ending_of_system VARS options cases.system) where
      -- they end with the answer of their system
      pub cases_expected : IsExpected (solver with_workers VARS) words told ending
      cases_expected = subst (λ e. IsExpected (solver with_workers VARS) words told e) (sym same) are.expected

      pub cases_answered : IsAnswered with_workers VARS words told ending
      cases_answered = record {
        options = options;
        system = cases.system;
        of_command = are.of_command;
        solvable = are.solvable;
        same = same;
      }

      pub cases_not_usage : ending.status ≢ Usage
      cases_not_usage = λ e. system_not_usage _ (sym (ap (λ a. a.status) same) ∙ e)
