-- The task of a whole system, its solutions, and the step of a task without a queue.
use Rattle.std.proofs.Common.{◌≡◌, ◌≢◌, ℕ, zero, suc, false, List, [], ◌∷◌, Some, length, Result, Ok, Err, IfOk, sym, ap, ap₂, ◌∙◌, subst}
use Rattle.std.specs.List.{list_any, slice_get}
use Rattle.mono_words.specs.declared.mono.TheConstants.{VARS}
use Rattle.polynomials.specs.Polynomials.{Polynomial, is_zero}
use Rattle.zero_sets.specs.Tasks.{Task}
use Rattle.split_paths.specs.declared.splitter.Step.{Step}
use Rattle.finish_rules.specs.Leaves.{Leaf}
use Rattle.case_rules.specs.Finish.{finish_step}
use Rattle.case_rules.specs.Cases.{root_task, step_by_queue}
use Rattle.case_laws.specs.Laws.{HasSolutions}
use Rattle.case_laws.proofs.Roots.{roots_start_well}
use Rattle.case_tree.specs.Systems.{CaseSystem, IsSolvable, IsTaskOf, polynomial_system_of, step_of}

-- where none of a list is 0, that at a place isn't
pub nonzero_at : (fs : List Polynomial) (i : ℕ) (f : Polynomial) → list_any is_zero fs ≡ false → slice_get fs i ≡ Some f → f ≢ []
nonzero_at [] i f none at is = cc
nonzero_at ([] ∷ fs) i f none at is = cc
nonzero_at ((t ∷ g) ∷ fs) zero f none at is = cc
nonzero_at ((t ∷ g) ∷ fs) (suc i) f none at is = nonzero_at fs i f none at is

-- the task is one of the system
pub roots_are_lawful : {E : Type 0} {seen cases : CaseSystem} → seen ≡ cases → IsSolvable seen.system → (root : Result Task E) → IfOk root (λ task. task ≡ root_task VARS (polynomial_system_of seen.system)) → IfOk root (IsTaskOf cases)
roots_are_lawful same solvable (Err e) made = tt
roots_are_lawful {E} {seen} same solvable (Ok task) made = subst (λ x. IsTaskOf x task) same (subst (IsTaskOf seen) (sym made) (solvable, (roots_start_well VARS (length seen.system.names) (polynomial_system_of seen.system) solvable).lawful))

-- and has its solutions
pub roots_have_solutions : {E : Type 0} {seen cases : CaseSystem} → seen ≡ cases → IsSolvable seen.system → (root : Result Task E) → IfOk root (λ task. task ≡ root_task VARS (polynomial_system_of seen.system)) → IfOk root (HasSolutions (polynomial_system_of cases.system))
roots_have_solutions same solvable (Err e) made = tt
roots_have_solutions {E} {seen} same solvable (Ok task) made = subst (λ x. HasSolutions (polynomial_system_of x.system) task) same (subst (HasSolutions (polynomial_system_of seen.system)) (sym made) (roots_start_well VARS (length seen.system.names) (polynomial_system_of seen.system) solvable).zeros)

-- a task without a queue is finished
pub finished_step : {E : Type 0} {seen cases : CaseSystem} (p w : ℕ) (task : Task) → seen ≡ cases → p ≡ cases.system.prime → w ≡ cases.width → task.queue ≡ [] → (step : Result (Step Task Leaf) E) → IfOk step (λ made. (nonzero : List Polynomial) → made ≡ finish_step VARS w (record { prime = p; inputs = seen.system.inputs; nonzero = nonzero }) task) → IfOk step (λ made. made ≡ step_of cases task)
finished_step p w task same prime width empty (Err e) made = tt
finished_step {E} {seen} {cases} p w task same prime width empty (Ok step) made =
    made seen.system.nonzero
    ∙ (ap₂ (λ q v. finish_step VARS v (record { prime = q; inputs = seen.system.inputs; nonzero = seen.system.nonzero }) task) prime width
    ∙ (ap (λ x. finish_step VARS cases.width (record { prime = cases.system.prime; inputs = x.system.inputs; nonzero = x.system.nonzero }) task) same
    ∙ sym (ap (step_by_queue VARS cases.width (polynomial_system_of cases.system) task) empty)))
