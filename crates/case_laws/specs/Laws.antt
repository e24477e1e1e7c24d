-- The laws of the solver's steps, and of the answer of its tree.
use Rattle.std.specs.Prelude.{◌≡◌, ◌↔◌, ℕ, List, [], Contains, None}
use Rattle.std.specs.List.{Any}
use Rattle.polynomials.specs.Polynomials.{Polynomial}
use Rattle.zero_sets.specs.Domains.{Tables, IsPointOver}
use Rattle.zero_sets.specs.ZeroSets.{InZeroSet, AreNonZero, InQuasiComponent}
use Rattle.zero_sets.specs.Systems.{PolynomialSystem, IsSolution}
use Rattle.zero_sets.specs.Tasks.{Task, InTask}
use Rattle.split_paths.specs.declared.splitter.Step.TheVariants.{Gone}
use Rattle.split_paths.specs.Answer.{Answer, answer_of}
use Rattle.split_paths.specs.Tree.{events_of}
use Rattle.finish_rules.specs.Leaves.{Leaf, InLeaf}
use Rattle.case_rules.specs.Cases.{case_step, root_task, root_place}
use Rattle.tree_laws.specs.Points.{IsKeptBy, IfEmitted}
use Rattle.tree_laws.specs.Laws.{KeepsLaw}
use Rattle.case_laws.specs.Lawful.{IsLawfulSystem, IsLawfulLeaf, IsLawfulTask}

-- the step of a lawful task is lawful
abbrev pub CaseStepsKeepLaw : Type 0
CaseStepsKeepLaw =
    (n k w : ℕ) (system : PolynomialSystem)
    → IsLawfulSystem n k system
    → KeepsLaw (case_step n w system)
    (IsLawfulTask system.prime n k) (IsLawfulLeaf system.prime n k)

-- in any finite domain of the characteristic, each solution of the system is a point of the task
abbrev pub HasSolutions : PolynomialSystem → Task → Type 0
HasSolutions system task =
    (r : Tables) (xs : List ℕ)
    → IsPointOver system.prime r xs → IsSolution r xs system → InTask r xs task

-- the task that the tree of a system starts with is lawful, and has the system's solutions
pub record StartsWell (n k : ℕ) (system : PolynomialSystem) : Type 0 where
  pub lawful : IsLawfulTask system.prime n k (root_task n system)
  pub zeros : HasSolutions system (root_task n system)

-- each lawful system starts well
abbrev pub RootsStartWell : Type 0
RootsStartWell =
    (n k : ℕ) (system : PolynomialSystem) → IsLawfulSystem n k system → StartsWell n k system

-- where 0 is one of the polynomials that must not vanish, the first step leaves nothing
abbrev pub ZeroLeavesNothing : Type 0
ZeroLeavesNothing =
    (n k w : ℕ) (system : PolynomialSystem)
    → IsLawfulSystem n k system
    → Contains system.nonzero []
    → case_step n w system (root_task n system) ≡ Gone

-- no step loses a common zero of the inputs, in any finite domain of the characteristic: a point of
-- the task is one of a child, or of the leaf that is emitted
abbrev pub CaseStepsLoseNoZero : Type 0
CaseStepsLoseNoZero =
    (n k w : ℕ) (system : PolynomialSystem) (task : Task) (r : Tables) (xs : List ℕ)
    → IsLawfulSystem n k system
    → IsLawfulTask system.prime n k task
    → IsPointOver system.prime r xs
    → InZeroSet r xs system.inputs
    → InTask r xs task
    → IsKeptBy (InTask r xs) (InLeaf r xs) (case_step n w system task)

-- in every finite domain of characteristic p each point in the quasi-component of the triangular
-- set makes all inputs zero
abbrev pub IsInZeroSet : ℕ → List Polynomial → List Polynomial → Type 0
IsInZeroSet p inputs chain =
    (r : Tables) (xs : List ℕ)
    → IsPointOver p r xs → InQuasiComponent r xs chain → InZeroSet r xs inputs

-- the leaf has common zeros of the inputs alone
abbrev pub IsSoundLeaf : PolynomialSystem → Leaf → Type 0
IsSoundLeaf system leaf = IsInZeroSet system.prime system.inputs leaf.chain

-- what is emitted has common zeros of the inputs alone
abbrev pub EmittedLeavesAreSound : Type 0
EmittedLeavesAreSound =
    (n k w : ℕ) (system : PolynomialSystem) (task : Task)
    → IsLawfulSystem n k system
    → IsLawfulTask system.prime n k task
    → IfEmitted (IsSoundLeaf system) (case_step n w system task)

-- the answer to a system, with so many steps for each branch
abbrev pub answer_to : ℕ → ℕ → ℕ → PolynomialSystem → Answer Leaf
answer_to n w steps system =
    answer_of (events_of (case_step n w system) (root_place n steps system))

-- each leaf of the answer is lawful
abbrev pub IsLawfulAnswer : ℕ → ℕ → PolynomialSystem → Answer Leaf → Type 0
IsLawfulAnswer n k system answer =
    (leaf : List ℕ × Leaf) → Contains answer.chains leaf → IsLawfulLeaf system.prime n k leaf.1

-- each leaf of the answer has common zeros of the inputs alone
abbrev pub IsSoundAnswer : PolynomialSystem → Answer Leaf → Type 0
IsSoundAnswer system answer =
    (leaf : List ℕ × Leaf) → Contains answer.chains leaf → IsSoundLeaf system leaf.1

-- in every finite domain of the characteristic, of the points that make none of the polynomials
-- zero that must not vanish, those that make all inputs zero are those in a leaf of the answer
abbrev pub IsCompleteAnswer : PolynomialSystem → Answer Leaf → Type 0
IsCompleteAnswer system answer =
    (r : Tables) (xs : List ℕ)
    → IsPointOver system.prime r xs
    → AreNonZero r xs system.nonzero
    → InZeroSet r xs system.inputs
    ↔ Any (λ (leaf : List ℕ × Leaf). InLeaf r xs leaf.1) answer.chains

-- the answer to a lawful system, stopped or not, has lawful leaves
abbrev pub AnswersAreLawful : Type 0
AnswersAreLawful =
    (n k w steps : ℕ) (system : PolynomialSystem)
    → IsLawfulSystem n k system
    → IsLawfulAnswer n k system (answer_to n w steps system)

-- with common zeros of the inputs alone
abbrev pub AnswersAreSound : Type 0
AnswersAreSound =
    (n k w steps : ℕ) (system : PolynomialSystem)
    → IsLawfulSystem n k system
    → IsSoundAnswer system (answer_to n w steps system)

-- and where no branch is stopped, with all solutions
abbrev pub AnswersHaveCommonZeros : Type 0
AnswersHaveCommonZeros =
    (n k w steps : ℕ) (system : PolynomialSystem)
    → IsLawfulSystem n k system
    → (answer_to n w steps system).stop ≡ None
    → IsCompleteAnswer system (answer_to n w steps system)
