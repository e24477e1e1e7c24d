-- What the pool asks of the tree of a system's cases.
use Rattle.std.proofs.Common.{◌≡◌, ℕ, List, length, ap, sym, subst, ◌∙◌}
use Rattle.std.specs.List.{AllByRecursion, Contains}
use Rattle.mono_words.specs.declared.mono.TheConstants.{VARS}
use Rattle.zero_sets.specs.Tasks.{Task}
use Rattle.split_paths.proofs.Lists.{all_contained, all_weaker}
use Rattle.finish_rules.specs.Leaves.{Leaf}
use Rattle.case_laws.specs.Lawful.{IsLawfulTask}
use Rattle.case_laws.proofs.AnswersOfSystems.{answers_are_lawful}
use Rattle.case_laws.proofs.Roots.{roots_start_well}
use Rattle.case_tree.specs.Systems.{CaseSystem, IsTaskOf, polynomial_system_of, step_of}
use Rattle.solver_reports.specs.Growth.{IsPrintableLeaf}
use Rattle.solver_rules.proofs.Printable.{lawful_printable}
use Rattle.work_pool.specs.Taken.{answer_below}
use Rattle.tri_many.specs.Answers.{IsRootOf, answer_in}

module _ (cases : CaseSystem) (root : Task) (is : IsRootOf cases root) where
  -- the root is lawful
  pub root_is_lawful : IsTaskOf cases root
  root_is_lawful = (is.solvable, subst (λ t. IsLawfulTask cases.system.prime VARS (length cases.system.names) t) (sym is.same) (roots_start_well VARS (length cases.system.names) (polynomial_system_of cases.system) is.solvable).lawful)

  module _ (steps : ℕ) where
    -- the answer below the root is that of the system
    pub answer_is : answer_below (step_of cases) steps root ≡ answer_in cases steps
    answer_is = ap (λ t. answer_below (step_of cases) steps t) is.same

    -- its chains can be printed
    pub chains_are_printable : AllByRecursion (λ (pair : List ℕ × Leaf). IsPrintableLeaf (length cases.system.names) pair.1) (answer_below (step_of cases) steps root).chains
    chains_are_printable =
        let k = length cases.system.names in
        let chains = (answer_in cases steps).chains in
        subst (λ answer. AllByRecursion (λ (pair : List ℕ × Leaf). IsPrintableLeaf k pair.1) answer.chains) (sym answer_is)
        (all_weaker (Contains chains) (λ (pair : List ℕ × Leaf). IsPrintableLeaf k pair.1)
        (λ pair has. lawful_printable cases.system.prime VARS k pair.1 (answers_are_lawful VARS k cases.width steps (polynomial_system_of cases.system) is.solvable pair has))
        chains (all_contained chains))

    -- and counted
    pub chains_are_countable : AllByRecursion (λ (pair : List ℕ × Leaf). Unit {0}) (answer_below (step_of cases) steps root).chains
    chains_are_countable =
        let chains = (answer_below (step_of cases) steps root).chains in
        all_weaker (λ (pair : List ℕ × Leaf). IsPrintableLeaf (length cases.system.names) pair.1) (λ (pair : List ℕ × Leaf). Unit {0}) (λ pair printable. tt) chains chains_are_printable

  -- with the steps of a command
  pub answer_with : (given steps : ℕ) → given ≡ steps → answer_below (step_of cases) given root ≡ answer_in cases steps
  answer_with given steps same = answer_is given ∙ ap (λ k. answer_in cases k) same
