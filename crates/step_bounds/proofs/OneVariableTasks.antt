-- Tasks in one variable: what was imposed is divided by the chain.
use Rattle.std.proofs.Common.{◌≡◌, ℕ, List, [], ◌∷◌, ◌++◌, append_assoc, refl, sym, ◌∙◌}
use Rattle.std.specs.List.{AllByRecursion}
use Rattle.polynomials.specs.Polynomials.{Polynomial}
use Rattle.zero_sets.specs.Tasks.{Task}
use Rattle.impose_rules.proofs.Lists.{each_appended}
use Rattle.step_bounds.proofs.OneVariable.{AreLow, IsLowChain}
use Rattle.step_bounds.proofs.Univariate.{IsLow}
use Rattle.step_bounds.proofs.UnivariateRows.{DividesMultiple}

module _ (p n d : ℕ) where
  -- 0 where the chain has nothing, and else a multiple of its polynomial up to a constant
  abbrev pub IsDoneBy : List Polynomial → Polynomial → Type 0
  IsDoneBy [] f = f ≡ []
  IsDoneBy (t ∷ more) f = DividesMultiple p n t f

  -- such polynomials of low degree
  abbrev pub AreDoneBy : List Polynomial → List Polynomial → Type 0
  AreDoneBy chain fs = AllByRecursion (λ f. IsLow p n d f × IsDoneBy chain f) fs

  -- the inputs are those that are done and those of the queue
  pub record IsLowTask (inputs : List Polynomial) (task : Task) : Type 0 where
    pub chain : IsLowChain p n d task.chain
    pub queue : AreLow p n d task.queue
    pub nonzero : AreLow p n d task.nonzero
    pub done : List Polynomial
    pub parts : inputs ≡ done ++ task.queue
    pub each_done : AreDoneBy task.chain done

  -- one of which so much is left in the queue
  abbrev pub IsLowChild : List Polynomial → List Polynomial → Task → Type 0
  IsLowChild inputs rest kid = IsLowTask inputs kid × (kid.queue ≡ rest)

  -- a child, where the first of the queue is done too
  pub child_with : (inputs rest done : List Polynomial) → AreLow p n d rest → (f : Polynomial) → IsLow p n d f → inputs ≡ done ++ f ∷ rest → (chain ns : List Polynomial) → IsLowChain p n d chain → AreLow p n d ns → AreDoneBy chain done → IsDoneBy chain f → IsLowChild inputs rest (record { chain = chain; queue = rest; nonzero = ns })
  child_with inputs rest done of_rest f of_f parts chain ns of_chain of_ns each here = (
    record {
      chain = of_chain;
      queue = of_rest;
      nonzero = of_ns;
      done = done ++ f ∷ [];
      parts = parts ∙ sym (append_assoc done (f ∷ []) rest);
      each_done = each_appended (λ x. IsLow p n d x × IsDoneBy chain x) done (f ∷ []) each ((of_f, here), tt);
    },
    refl,
  )
