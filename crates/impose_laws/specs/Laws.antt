-- What the children of an imposed polynomial keep of a task whose queue starts with it.
use Rattle.std.specs.Prelude.{◌≡◌, ℕ, ◌≤◌, max, List, ◌∷◌, length, IfSome}
use Rattle.std.specs.List.{AllByRecursion, Any}
use Rattle.polynomials.specs.Primes.{IsPrime}
use Rattle.polynomials.specs.Polynomials.{Polynomial}
use Rattle.polynomials.specs.Views.{degree_in}
use Rattle.zero_sets.specs.Domains.{Tables, IsPointOver}
use Rattle.zero_sets.specs.ZeroSets.{IsTriangular}
use Rattle.zero_sets.specs.Tasks.{Task, InTask}
use Rattle.impose_rules.specs.Impose.{impose_children}
use Rattle.impose_laws.specs.TaskForms.{IsTaskOver, KeepsForm}

-- where all products fit, each point of the task, over each finite domain of the characteristic, is
-- a point of one of the children
abbrev pub ChildrenCoverTheTask : Type 0
ChildrenCoverTheTask =
    (p n w : ℕ) (task : Task) (f : Polynomial) (rest : List Polynomial) (r : Tables) (xs : List ℕ)
    → IsPrime p
    → IsTaskOver p n task
    → IsTriangular task.chain
    → task.queue ≡ f ∷ rest
    → IsPointOver p r xs
    → InTask r xs task
    → IfSome (impose_children p n w task.chain rest task.nonzero f) (Any (InTask r xs))

-- each child keeps the form of the task
abbrev pub ChildrenKeepTheForm : Type 0
ChildrenKeepTheForm =
    (p n w : ℕ) (task : Task) (f : Polynomial) (rest : List Polynomial)
    → IsPrime p
    → IsTaskOver p n task
    → IsTriangular task.chain
    → task.queue ≡ f ∷ rest
    → IfSome (impose_children p n w task.chain rest task.nonzero f)
    (AllByRecursion (KeepsForm p n task))

-- where no degree of the triangular set, in whatever variable, passes d, there are at most max 2 d
-- children
abbrev pub ChildrenAreFew : Type 0
ChildrenAreFew =
    (p n w d : ℕ) (task : Task) (f : Polynomial) (rest : List Polynomial)
    → IsPrime p
    → IsTaskOver p n task
    → IsTriangular task.chain
    → task.queue ≡ f ∷ rest
    → AllByRecursion (λ t. (v : ℕ) → degree_in v t ≤ d) task.chain
    → IfSome (impose_children p n w task.chain rest task.nonzero f)
    (λ children. length children ≤ max 2 d)
