-- The laws of ends: for each task, and for each system, some number of steps is enough.
use Rattle.std.specs.Prelude.{ℕ, ◌≤◌, List, IfSome}
use Rattle.std.specs.List.{AllByRecursion}
use Rattle.zero_sets.specs.Systems.{PolynomialSystem}
use Rattle.zero_sets.specs.Tasks.{Task}
use Rattle.split_paths.specs.declared.event.Event.{Event}
use Rattle.split_paths.specs.declared.event.Event.TheVariants.{Split, Leaf}
use Rattle.split_paths.specs.declared.event.Outcome.TheVariants as outcome
use Rattle.split_paths.specs.declared.event.Why.{Why}
use Rattle.split_paths.specs.declared.event.Why.TheVariants as why
use Rattle.split_paths.specs.declared.splitter.Step.{Step}
use Rattle.split_paths.specs.Answer.{Answer}
use Rattle.split_paths.specs.Tree.{events_of}
use Rattle.case_rules.specs.Cases.{case_step}
use Rattle.case_laws.specs.Lawful.{IsLawfulSystem, IsLawfulTask}
use Rattle.case_laws.specs.Laws.{answer_to}

-- it isn't a leaf that had no step left
abbrev pub HadAStep : {L : Type 0} → Event L → Type 0
HadAStep (Split path kids) = Unit {0}
HadAStep (Leaf path outcome.Gone) = Unit {0}
HadAStep (Leaf path (outcome.Chain leaf)) = Unit {0}
HadAStep (Leaf path outcome.Steps) = ⊥
HadAStep (Leaf path outcome.TooWide) = Unit {0}

-- with so many steps or more no branch of the tree below the task lacks one
abbrev pub AreEnoughSteps : {T L : Type 0} → (T → Step T L) → T → ℕ → Type 0
AreEnoughSteps step task steps =
    (more : ℕ)
    → steps ≤ more
    → (path : List ℕ)
    → AllByRecursion HadAStep
    (events_of step (record { path = path; steps = more; task = task }))

-- for each lawful task of a lawful system some number of steps is enough
abbrev pub EveryBranchEnds : Type 0
EveryBranchEnds =
    (n k w : ℕ) (system : PolynomialSystem) (task : Task)
    → IsLawfulSystem n k system
    → IsLawfulTask system.prime n k task
    → (steps : ℕ) × AreEnoughSteps (case_step n w system) task steps

-- the cause isn't that no step was left
abbrev pub IsNotForSteps : Why → Type 0
IsNotForSteps why.Steps = ⊥
IsNotForSteps why.Size = Unit {0}

-- no branch stopped the answer since it had no step left
abbrev pub HadEachStep : {L : Type 0} → Answer L → Type 0
HadEachStep answer = IfSome answer.stop (λ stop. IsNotForSteps stop.1)

-- for each lawful system there is a number of steps so that, with that many or more for each
-- branch, none stops the answer since it has no step left
abbrev pub SystemsNeedSomeSteps : Type 0
SystemsNeedSomeSteps =
    (n k w : ℕ) (system : PolynomialSystem)
    → IsLawfulSystem n k system
    → (steps : ℕ) × ((more : ℕ) → steps ≤ more → HadEachStep (answer_to n w more system))
