-- What was written for a system is its solution: triangular sets of common zeros, and of all where none stopped.
use Rattle.std.proofs.Common.{◌≡◌, ℕ, Bool, true, false, cond, List, length, Option, Some, None, inl, inr, refl, sym, ap, ◌∙◌, subst}
use Rattle.std.specs.Io.KnownBytes.{Appends}
use Rattle.mono_words.specs.declared.mono.TheConstants.{VARS}
use Rattle.split_paths.specs.declared.event.Why.{Why}
use Rattle.report_text.specs.declared.status.Status.{Status}
use Rattle.report_text.specs.declared.status.Status.TheVariants.{Chains, Stopped}
use Rattle.report_text.specs.Answers.{is_stopped}
use Rattle.case_laws.specs.Lawful.{IsLawfulSystem}
use Rattle.step_bounds.proofs.LinearSteps.{linear_systems_are_never_stopped}
use Rattle.step_bounds.proofs.OneVariableSteps.{systems_in_one_variable_are_never_stopped}
use Rattle.case_laws.proofs.AnswersOfSystems.{answers_are_lawful, answers_are_sound, answers_have_common_zeros}
use Rattle.case_tree.specs.Systems.{IsSolvable, polynomial_system_of}
use Rattle.system_text.specs.Lines.{TextSystem}
use Rattle.tri_io.specs.Commands.{Options}
use Rattle.solver_rules.specs.Limits.{AreEnough}
use Rattle.run_rules.specs.Programs.{Ending}
use Rattle.run_rules.specs.Runs.{Writes}
use Rattle.solver_rules.specs.Solver.{answer_of_system, solver}
use Rattle.solver_rules.specs.Solved.{IsAnswered, IsSolved, IsOfSystem}
use Rattle.solver_rules.proofs.Statuses.{not_write_fault}

-- with the status of chains no branch was stopped
going_on : (b : Bool) → cond b Stopped Chains ≡ Chains → b ≡ false
going_on true e = cc
going_on false e = refl

no_stop : (stop : Option (List ℕ × Why)) → is_stopped stop ≡ false → stop ≡ None
no_stop None e = refl
no_stop (Some s) e = cc

-- where the limits are known to be enough no branch was stopped
enough_stops_none : (options : Options) (system : TextSystem) → IsSolvable system → AreEnough options system → (answer_of_system VARS options system).stop ≡ None
enough_stops_none options system solvable (few, inl is) = linear_systems_are_never_stopped VARS (length system.names) options.width options.steps (polynomial_system_of system) solvable is.linear few is.names
enough_stops_none options system solvable (few, inr is) =
    systems_in_one_variable_are_never_stopped VARS is.most options.width options.steps (polynomial_system_of system)
    (subst (λ k. IsLawfulSystem VARS k (polynomial_system_of system)) is.name solvable) is.degrees few is.less

-- where the text was written whole
pub answered_solved : (with_workers : Bool) (words : List (List ℕ)) (told old new : Option (List ℕ)) (ending : Ending Status) → IsAnswered with_workers VARS words told ending → Appends old new ending.text → IsSolved with_workers VARS words told old new ending.status
answered_solved with_workers words told old new ending h appends =
    let options = h.options in
    let system = polynomial_system_of h.system in
    let k = length h.system.names in
    let stop = (answer_of_system VARS options h.system).stop in
    record {
      options = options;
      system = h.system;
      of_command = h.of_command;
      written = subst (λ e. Appends old new e.text) h.same appends;
      solves = record {
        lawful = answers_are_lawful VARS k options.width options.steps system h.solvable;
        sound = answers_are_sound VARS k options.width options.steps system h.solvable;
        complete = λ chains. answers_have_common_zeros VARS k options.width options.steps system h.solvable (no_stop stop (going_on (is_stopped stop) (sym (ap (λ e. e.status) h.same) ∙ chains)));
      };
      enough = λ known. ap (λ e. e.status) h.same ∙ ap (λ s. cond (is_stopped s) Stopped Chains) (enough_stops_none options h.system h.solvable known);
    }

-- a run that wrote the ending of a system has solved it
pub written_solved : (with_workers : Bool) (words : List (List ℕ)) (told : Option (List ℕ)) (K : Type 0) (old new : Option (List ℕ)) (ending : Ending Status) (status : Status) → (IsOfSystem ending.status → IsAnswered with_workers VARS words told ending) → Writes (solver with_workers VARS) ending K old new status → IsOfSystem status → IsSolved with_workers VARS words told old new status
written_solved with_workers words told K old new ending status answered (inl w) h =
    subst (λ s. IsSolved with_workers VARS words told old new s) (sym w.0) (answered_solved with_workers words told old new ending (answered (subst (λ s. IsOfSystem s) w.0 h)) w.1)
written_solved with_workers words told K old new ending status answered (inr w) h = not_write_fault status w.0 h
