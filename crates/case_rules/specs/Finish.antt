-- The step of a task whose queue is empty.
use Rattle.std.specs.Prelude.{ℕ, Bool, true, false, List, [], ◌∷◌, Option, Some, None}
use Rattle.polynomials.specs.Polynomials.{Polynomial, is_zero}
use Rattle.zero_sets.specs.Certificates.{Certificate}
use Rattle.zero_sets.specs.Systems.{PolynomialSystem}
use Rattle.zero_sets.specs.Tasks.{Task}
use Rattle.division_rules.specs.Within.{and_then}
use Rattle.split_paths.specs.declared.splitter.Step.{Step}
use Rattle.split_paths.specs.declared.splitter.Step.TheVariants.{Gone, Emit, Kids}
use Rattle.finish_rules.specs.Leaves.{Leaf}
use Rattle.tree_laws.specs.Steps.{emitted_then, fitting_then, with_each_kid}
use Rattle.finish_rules.specs.Remainders.{remainder_of}
use Rattle.finish_rules.specs.Initials.{certified}

-- in n variables modulo p, with products within the width w, by a triangular set
module _ (p n w : ℕ) (chain : List Polynomial) where
  -- whether one of fs reduces to 0; those after the first that does aren't reduced
  abbrev pub has_zero_remainder : List Polynomial → Option Bool
  has_zero_remainder [] = Some false
  has_zero_remainder (f ∷ fs) = and_then (remainder_of p n w chain f)
      (λ r. elim (is_zero r) [ true ↦ Some true | false ↦ has_zero_remainder fs ])

  -- the first remainder of fs that isn't 0, if there is one; those after it aren't reduced
  abbrev pub first_remainder : List Polynomial → Option (Option Polynomial)
  first_remainder [] = Some None
  first_remainder (f ∷ fs) = and_then (remainder_of p n w chain f)
      (λ r. elim (is_zero r) [ true ↦ first_remainder fs | false ↦ Some (Some r) ])

-- by a triangular set, where the polynomials ns don't vanish
module _ (chain ns : List Polynomial) where
  -- the child that imposes f
  abbrev pub imposing : Polynomial → Task
  imposing f = record { chain = chain; queue = f ∷ []; nonzero = ns }

  -- a remainder that isn't 0 is imposed; where there is none the chain is emitted with certificates
  abbrev pub step_by_remainder : List Certificate → Option Polynomial → Step Task Leaf
  step_by_remainder cs None = Emit (record { chain = chain; certificates = cs })
  step_by_remainder cs (Some r) = Kids (imposing r ∷ [])

-- the same in n variables modulo p, with products within the width w
module _ (p n w : ℕ) (chain ns : List Polynomial) where
  -- the step where the initials have certificates: all inputs are to reduce to 0
  abbrev pub step_by_inputs : List Polynomial → List Certificate → Step Task Leaf
  step_by_inputs inputs cs =
      fitting_then (first_remainder p n w chain inputs)
      (λ found. step_by_remainder chain ns cs found)

  -- no points are left where a polynomial that doesn't vanish reduces to 0; else the initials are
  -- certified first, and what one without a certificate gives way to is imposed
  abbrev pub step_by_nonzero : List Polynomial → Bool → Step Task Leaf
  step_by_nonzero inputs true = Gone
  step_by_nonzero inputs false =
      emitted_then (with_each_kid (imposing chain ns) (certified p n w chain ns chain))
      (λ cs. step_by_inputs inputs cs)

-- the step of a task of the system whose queue is empty
abbrev pub finish_step : ℕ → ℕ → PolynomialSystem → Task → Step Task Leaf
finish_step n w system task =
    fitting_then (has_zero_remainder system.prime n w task.chain task.nonzero)
    (λ zero. step_by_nonzero system.prime n w task.chain task.nonzero system.inputs zero)
