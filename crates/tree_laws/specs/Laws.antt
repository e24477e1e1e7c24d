-- The answer of a tree whose steps lose no point.
use Rattle.std.specs.Prelude.{◌≡◌, ℕ, List, None, Contains}
use Rattle.std.specs.List.{Any}
use Rattle.split_paths.specs.declared.splitter.Step.{Step}
use Rattle.split_paths.specs.Answer.{answer_of}
use Rattle.split_paths.specs.Lawful.{IsLawfulStep}
use Rattle.split_paths.specs.Places.{Place}
use Rattle.split_paths.specs.Tree.{events_of}
use Rattle.tree_laws.specs.Points.{IsKeptBy, IfEmitted}

-- steps of lawful tasks are lawful
abbrev pub KeepsLaw : {T L : Type 0} → (T → Step T L) → (T → Type 0) → (L → Type 0) → Type 0
KeepsLaw {T} step lawful_task lawful_leaf =
    (task : T) → lawful_task task → IsLawfulStep lawful_task lawful_leaf (step task)

-- where no step of a lawful task loses a point, and no branch of the tree of a lawful root is
-- stopped, a point of the root is a point of a leaf of the answer
abbrev pub AnswersCoverTheRoot : {T L : Type 0}
    → (T → Step T L) → (T → Type 0) → (L → Type 0) → (T → Type 0) → (L → Type 0) → Type 0
AnswersCoverTheRoot {T} {L} step lawful_task lawful_leaf in_task in_leaf =
    KeepsLaw step lawful_task lawful_leaf
    → ((task : T) → lawful_task task → in_task task → IsKeptBy in_task in_leaf (step task))
    → (root : Place T) → lawful_task root.task → in_task root.task
    → (answer_of (events_of step root)).stop ≡ None
    → Any (λ (chain : List ℕ × L). in_leaf chain.1) (answer_of (events_of step root)).chains

-- what holds of each leaf that the step of a lawful task emits holds of each leaf of the answer of
-- a lawful root, stopped or not
abbrev pub AnswersAreEmitted : {T L : Type 0}
    → (T → Step T L) → (T → Type 0) → (L → Type 0) → (L → Type 0) → Type 0
AnswersAreEmitted {T} {L} step lawful_task lawful_leaf P =
    KeepsLaw step lawful_task lawful_leaf
    → ((task : T) → lawful_task task → IfEmitted P (step task))
    → (root : Place T) → lawful_task root.task
    → (chain : List ℕ × L) → Contains (answer_of (events_of step root)).chains chain → P chain.1
