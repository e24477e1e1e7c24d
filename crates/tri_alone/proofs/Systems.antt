-- What is written for a system is the report or the summary of its answer.
use Rattle.std.proofs.Common.{◌≡◌, ℕ, cond, List, [], Option, ap, ◌∙◌}
use Rattle.mono_words.specs.declared.mono.TheConstants.{VARS}
use Rattle.zero_sets.specs.Tasks.{Task}
use Rattle.split_paths.specs.Answer.{answer_of}
use Rattle.split_paths.specs.Places.{Place}
use Rattle.split_paths.specs.Tree.{events_of}
use Rattle.system_text.specs.Lines.{TextSystem}
use Rattle.tri_io.specs.Commands.{Options}
use Rattle.case_rules.specs.Cases.{case_step, root_task}
use Rattle.case_tree.specs.Systems.{CaseSystem, polynomial_system_of, step_of}
use Rattle.report_text.specs.declared.status.Status.{Status}
use Rattle.report_text.specs.declared.status.Status.TheVariants.{Chains, Stopped}
use Rattle.solver_reports.specs.Walks.{Walk}
use Rattle.run_rules.specs.Programs.{Ending}
use Rattle.solver_rules.specs.Solver.{ending_of_system}
use Rattle.tri_alone.specs.Alone.{walk_for}

-- the place of a task
abbrev place : List ℕ → ℕ → Task → Place Task
place path steps task = record { path = path; steps = steps; task = task }

-- the ending of a walk
abbrev ending_of_walk : Walk → Ending Status
ending_of_walk walk = record { status = cond walk.stopped Stopped Chains; text = walk.text }

-- the ending of a walk of a system's tree from a place
abbrev walked_from : Option ℕ → TextSystem → ℕ → Place Task → Ending Status
walked_from made system width root = ending_of_walk (walk_for made system (answer_of (events_of (case_step VARS width (polynomial_system_of system)) root)))

pub walked_ending : (options : Options) (system : TextSystem) (cases : CaseSystem) (made : Option ℕ) (path : List ℕ) (steps : ℕ) (task : Task) (walked : Walk) (status : Status) → cases.system ≡ system → cases.width ≡ options.width → made ≡ options.made → path ≡ [] → steps ≡ options.steps → task ≡ root_task VARS (polynomial_system_of cases.system) → walked ≡ walk_for made cases.system (answer_of (events_of (step_of cases) (place path steps task))) → status ≡ cond walked.stopped Stopped Chains → record { status = status; text = walked.text } ≡ ending_of_system VARS options system
walked_ending options system cases made path steps task walked status same width from root count tasks walk chosen =
    let first : CaseSystem → Task = λ c. root_task VARS (polynomial_system_of c.system) in
    ap (λ s. record { status = s; text = walked.text }) chosen
    ∙ ap ending_of_walk walk
    ∙ ap (λ m. walked_from m cases.system cases.width (place path steps task)) from
    ∙ ap (λ q. walked_from options.made cases.system cases.width (place q steps task)) root
    ∙ ap (λ k. walked_from options.made cases.system cases.width (place [] k task)) count
    ∙ ap (λ t. walked_from options.made cases.system cases.width (place [] options.steps t)) tasks
    ∙ ap (λ w. walked_from options.made cases.system w (place [] options.steps (first cases))) width
    ∙ ap (λ s. walked_from options.made s options.width (place [] options.steps (root_task VARS (polynomial_system_of s)))) same
