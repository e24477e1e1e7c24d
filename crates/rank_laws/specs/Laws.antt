-- The laws of ranks: children have less rank than their task.
use Rattle.std.specs.Prelude.{◌≡◌, ℕ, List, ◌∷◌, IfSome}
use Rattle.std.specs.List.{AllByRecursion}
use Rattle.polynomials.specs.Primes.{IsPrime}
use Rattle.polynomials.specs.Polynomials.{Polynomial}
use Rattle.zero_sets.specs.Systems.{PolynomialSystem}
use Rattle.zero_sets.specs.Tasks.{Task}
use Rattle.impose_rules.specs.Impose.{impose_children}
use Rattle.rank_rules.specs.Orders.{IsLessFromFirst}
use Rattle.rank_rules.specs.Ranks.{rank_of}
use Rattle.case_rules.specs.Cases.{case_step}
use Rattle.case_laws.specs.Lawful.{IsLawfulSystem, IsLawfulTask}
use Rattle.rank_laws.specs.Kids.{EachKid}

-- the rank of the child is less than that of the task
abbrev pub HasLessRank : ℕ → ℕ → ℕ → ℕ → Task → Task → Type 0
HasLessRank p n k w task child = IsLessFromFirst (rank_of p n k w child) (rank_of p n k w task)

-- that is so for each child that the first polynomial of the queue of a lawful task gives
abbrev pub ImposedChildrenHaveLessRank : Type 0
ImposedChildrenHaveLessRank =
    (p n k w : ℕ) (task : Task) (f : Polynomial) (rest : List Polynomial)
    → IsPrime p
    → IsLawfulTask p n k task
    → task.queue ≡ f ∷ rest
    → IfSome (impose_children p n w task.chain rest task.nonzero f)
    (AllByRecursion (HasLessRank p n k w task))

-- and for each child of the step of a lawful task of a lawful system
abbrev pub CaseStepsLowerTheRank : Type 0
CaseStepsLowerTheRank =
    (n k w : ℕ) (system : PolynomialSystem) (task : Task)
    → IsLawfulSystem n k system
    → IsLawfulTask system.prime n k task
    → EachKid (HasLessRank system.prime n k w task) (case_step n w system task)
