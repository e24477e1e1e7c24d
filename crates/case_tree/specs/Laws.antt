-- The laws of a system's steps: no common zero is lost, none is invented, and ranks fall.
use Rattle.std.specs.Prelude.{ℕ, List, length}
use Rattle.mono_words.specs.declared.mono.TheConstants.{VARS}
use Rattle.zero_sets.specs.Domains.{Tables, IsPointOver}
use Rattle.zero_sets.specs.ZeroSets.{InZeroSet}
use Rattle.zero_sets.specs.Tasks.{Task, InTask}
use Rattle.split_paths.specs.declared.splitter.Step.{Step}
use Rattle.finish_rules.specs.Leaves.{Leaf, InLeaf}
use Rattle.tree_laws.specs.Points.{IsKeptBy, IfEmitted}
use Rattle.case_laws.specs.Laws.{IsSoundLeaf}
use Rattle.rank_laws.specs.Kids.{EachKid}
use Rattle.rank_laws.specs.Laws.{HasLessRank}
use Rattle.case_tree.specs.Systems.{CaseSystem, IsTaskOf, polynomial_system_of, step_of}

-- in any finite domain of the characteristic, a common zero of the system's inputs that is a point
-- of a task of the system is one of a child, or of the leaf that is emitted
abbrev pub StepsLoseNoCommonZero : Type 0
StepsLoseNoCommonZero =
    (cases : CaseSystem) (task : Task) (r : Tables) (xs : List ℕ)
    → IsTaskOf cases task
    → IsPointOver cases.system.prime r xs
    → InZeroSet r xs cases.system.inputs
    → InTask r xs task
    → IsKeptBy (InTask r xs) (InLeaf r xs) (step_of cases task)

-- each point of a leaf that is emitted is a common zero of the system's inputs
abbrev pub EmitsCommonZerosAlone : Type 0
EmitsCommonZerosAlone =
    (cases : CaseSystem) (task : Task)
    → IsTaskOf cases task
    → IfEmitted (IsSoundLeaf (polynomial_system_of cases.system)) (step_of cases task)

-- each child of this step has less rank than the task
abbrev pub LowersTheRank : CaseSystem → Task → Step Task Leaf → Type 0
LowersTheRank cases task =
    EachKid (HasLessRank cases.system.prime VARS (length cases.system.names) cases.width task)

-- so it is of the step of each task of the system
abbrev pub StepsLowerTheRank : Type 0
StepsLowerTheRank =
    (cases : CaseSystem) (task : Task)
    → IsTaskOf cases task
    → LowersTheRank cases task (step_of cases task)
