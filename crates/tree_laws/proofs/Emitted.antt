-- What holds of each leaf that steps emit holds of each leaf of the answer.
use Rattle.std.proofs.Common.{ℕ, List, [], ◌∷◌}
use Rattle.std.specs.List.{AllByRecursion}
use Rattle.split_paths.specs.declared.event.Event.{Event}
use Rattle.split_paths.specs.declared.event.Event.TheVariants.{Split, Leaf}
use Rattle.split_paths.specs.declared.event.Outcome.TheVariants as outcome
use Rattle.split_paths.specs.declared.splitter.Step.{Step}
use Rattle.split_paths.specs.declared.splitter.Step.TheVariants.{Gone, Emit, TooWide, Kids}
use Rattle.split_paths.specs.Answer.{answer_of}
use Rattle.split_paths.specs.Lawful.{IsLawfulStep, IsLawfulEvent}
use Rattle.split_paths.specs.Tree.{events_of}
use Rattle.split_paths.proofs.Closed.{lawful_events}
use Rattle.split_paths.proofs.Lists.{all_contains}
use Rattle.tree_laws.specs.Points.{IfEmitted}
use Rattle.tree_laws.specs.Laws.{AnswersAreEmitted}

module _ {T L : Type 0} (step : T → Step T L) (lawful_task : T → Type 0) (lawful_leaf : L → Type 0) (P : L → Type 0) where
  -- a lawful step whose leaf meets P is lawful by P
  emits_lawfully : (made : Step T L) → IsLawfulStep lawful_task lawful_leaf made → IfEmitted P made → IsLawfulStep lawful_task P made
  emits_lawfully Gone lawful emitted = tt
  emits_lawfully (Emit leaf) lawful emitted = emitted
  emits_lawfully TooWide lawful emitted = tt
  emits_lawfully (Kids kids) lawful emitted = lawful

  -- what holds of the leaves of events holds of those of their answer
  each_answered : (events : List (Event L)) → AllByRecursion (IsLawfulEvent P) events → AllByRecursion (λ (chain : List ℕ × L). P chain.1) (answer_of events).chains
  each_answered [] each = tt
  each_answered (Split path kids ∷ events) each = each_answered events each.1
  each_answered (Leaf path outcome.Gone ∷ events) each = each_answered events each.1
  each_answered (Leaf path (outcome.Chain leaf) ∷ events) each = (each.0, each_answered events each.1)
  each_answered (Leaf path outcome.Steps ∷ events) each = tt
  each_answered (Leaf path outcome.TooWide ∷ events) each = tt

  -- the law of leaves
  pub answers_are_emitted : AnswersAreEmitted step lawful_task lawful_leaf P
  answers_are_emitted keeps emitted root lawful chain has = all_contains (λ (leaf : List ℕ × L). P leaf.1) (answer_of (events_of step root)).chains chain (each_answered (events_of step root) (lawful_events lawful_task P step (λ task of_task. emits_lawfully (step task) (keeps task of_task) (emitted task of_task)) root lawful)) has
