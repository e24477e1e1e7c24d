-- The children of a step have less rank.
use Rattle.std.proofs.Common.{◌≡◌, length, Result, Ok, Err, IfOk, sym, subst}
use Rattle.mono_words.specs.declared.mono.TheConstants.{VARS}
use Rattle.zero_sets.specs.Tasks.{Task}
use Rattle.split_paths.specs.declared.splitter.Step.{Step}
use Rattle.finish_rules.specs.Leaves.{Leaf}
use Rattle.rank_laws.proofs.FinishedRanks.{case_steps_lower_the_rank}
use Rattle.case_tree.specs.Systems.{CaseSystem, IsTaskOf, polynomial_system_of, step_of}
use Rattle.case_tree.specs.Laws.{LowersTheRank}

-- those of the step of a task of the system
pub lowered : (cases : CaseSystem) (task : Task) → IsTaskOf cases task → LowersTheRank cases task (step_of cases task)
lowered cases task lawful = case_steps_lower_the_rank VARS (length cases.system.names) cases.width (polynomial_system_of cases.system) task lawful.0 lawful.1

-- where the step was made
pub lowered_if_made : {E : Type 0} (cases : CaseSystem) (task : Task) (made : Result (Step Task Leaf) E) → IsTaskOf cases task → IfOk made (λ step. step ≡ step_of cases task) → IfOk made (LowersTheRank cases task)
lowered_if_made cases task (Err e) lawful is_step = tt
lowered_if_made cases task (Ok step) lawful is_step = subst (LowersTheRank cases task) (sym is_step) (lowered cases task lawful)
