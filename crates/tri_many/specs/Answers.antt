-- The answer of a system's cases, and its text.
use Rattle.std.specs.Prelude.{◌≡◌, ℕ, List, ◌++◌, length}
use Rattle.std.specs.List.{flat_map}
use Rattle.mono_words.specs.declared.mono.TheConstants.{VARS}
use Rattle.zero_sets.specs.Tasks.{Task}
use Rattle.system_text.specs.Laws.{IsSystem}
use Rattle.split_paths.specs.Answer.{Answer}
use Rattle.finish_rules.specs.Leaves.{Leaf}
use Rattle.case_laws.specs.Laws.{answer_to}
use Rattle.case_rules.specs.Cases.{root_task}
use Rattle.case_tree.specs.Systems.{CaseSystem, IsSolvable, polynomial_system_of}
use Rattle.report_text.specs.Answers.{answer_text, last_line, leaf_text}

-- the answer of a system's cases, with so many steps along each branch
abbrev pub answer_in : CaseSystem → ℕ → Answer Leaf
answer_in cases steps = answer_to VARS cases.width steps (polynomial_system_of cases.system)

-- the text of an answer's chains and of its end
abbrev pub ending_text : List (List ℕ) → Answer Leaf → List ℕ
ending_text names answer =
    flat_map (leaf_text names) answer.chains
    ++ last_line (length answer.chains) answer.stop

-- the text of the answer of a system's cases
abbrev pub chains_text : CaseSystem → ℕ → List ℕ
chains_text cases steps =
    answer_text cases.system.names cases.system.nonzero (answer_in cases steps)

-- the cases can be solved, and begin with this task
pub record IsRootOf (cases : CaseSystem) (root : Task) : Type 0 where
  pub lawful : IsSystem VARS cases.system
  pub solvable : IsSolvable cases.system
  pub same : root ≡ root_task VARS (polynomial_system_of cases.system)
