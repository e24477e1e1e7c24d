-- Where the children cover a task, the step to them does.
use Rattle.std.proofs.Common.{◌≡◌, ℕ, List, [], ◌∷◌, Option, Some, None, IfSome, sym, subst}
use Rattle.std.specs.List.{Any}
use Rattle.mono_words.specs.declared.mono.TheConstants.{VARS}
use Rattle.polynomials.specs.Primes.{IsPrime}
use Rattle.polynomials.specs.Polynomials.{Polynomial}
use Rattle.zero_sets.specs.Domains.{Tables, IsPointOver}
use Rattle.zero_sets.specs.ZeroSets.{IsTriangular}
use Rattle.zero_sets.specs.Tasks.{Task, InTask}
use Rattle.impose_rules.specs.Impose.{impose_children, impose_step, step_to_fitting}
use Rattle.impose_laws.specs.TaskForms.{IsTaskOver}
use Rattle.impose_laws.proofs.Cover.{children_cover_the_task}
use Rattle.split_paths.specs.declared.splitter.Step.{Step}
use Rattle.intersect.specs.Covers.{CoversTask}

step_covers : (L : Type 0) (p : ℕ) (task : Task) (kids : Option (List Task)) → ((r : Tables) (xs : List ℕ) → IsPointOver p r xs → InTask r xs task → IfSome kids (Any (InTask r xs))) → CoversTask {L = L} p task (step_to_fitting kids)
step_covers L p task None all = tt
step_covers L p task (Some []) all = all
step_covers L p task (Some (kid ∷ kids)) all = all

-- imposing the first polynomial of the queue loses no point
impose_covers : (L : Type 0) (p w : ℕ) (task : Task) (f : Polynomial) (rest : List Polynomial) → IsPrime p → IsTaskOver p VARS task → IsTriangular task.chain → task.queue ≡ f ∷ rest → CoversTask {L = L} p task (impose_step p VARS w task.chain f rest task.nonzero)
impose_covers L p w task f rest prime over triangular starts = step_covers L p task (impose_children p VARS w task.chain rest task.nonzero f) (λ r xs at inside. children_cover_the_task p VARS w task f rest r xs prime over triangular starts at inside)

-- also where the task is given as its parts, and the step was made
pub made_covers : {L : Type 0} (p w : ℕ) (parts task : Task) (f : Polynomial) (rest : List Polynomial) (made : Step Task L) → IsPrime p → IsTaskOver p VARS task → parts ≡ task → IsTriangular parts.chain → parts.queue ≡ f ∷ rest → made ≡ impose_step p VARS w parts.chain f rest parts.nonzero → CoversTask p task made
made_covers {L} p w parts task f rest made prime over same triangular starts is = subst (λ t. CoversTask p t made) same (subst (CoversTask p parts) (sym is) (impose_covers L p w parts f rest prime (subst (IsTaskOver p VARS) (sym same) over) triangular starts))
