-- A command that makes a system, and reads none.
use Rattle.std.proofs.Common.{◌≡◌, ℕ, Bool, false, true, List, [], Option, Some, ap, sym, ◌∙◌}
use Rattle.std.specs.Prelude.{is_none}
use Rattle.mono_words.specs.declared.mono.TheConstants.{VARS}
use Rattle.system_parser.specs.Made.{made_system}
use Rattle.tri_io.specs.Commands.{Options, IsCommand}
use Rattle.tri_io.proofs.KnownCommands.{commands_known}
use Rattle.run_rules.specs.Programs.{IsExpected, IsReader}
use Rattle.run_rules.proofs.Inputs.{unread_expected}
use Rattle.solver_rules.specs.Solver.{ending_of_reading, ending_of_system, solver, system_of}

module _ (with_workers : Bool) (words : List (List ℕ)) (options : Options) (command : IsCommand with_workers words options) (k : ℕ) (made : options.made ≡ Some k) where
  -- the words are no other command
  pub reads_none : IsReader (solver with_workers VARS) words → ⊥
  reads_none (other, is, reads) =
      let same : other ≡ options = commands_known with_workers words other options is command in
      let bad : false ≡ true = sym (ap is_none made) ∙ sym (ap (λ (o : Options). is_none o.made) same) ∙ reads in
      cc

  -- it ends with the answer of the system that is made
  pub made_expected : (told : Option (List ℕ)) → IsExpected (solver with_workers VARS) words told (ending_of_system VARS options (made_system VARS k))
  made_expected told =
      unread_expected (solver with_workers VARS) words options told (ending_of_system VARS options (made_system VARS k)) command (ap is_none made)
      (sym (ap (λ m. ending_of_reading VARS options (system_of VARS m [])) made))
