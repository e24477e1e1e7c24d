-- Linear systems are never stopped.
use Rattle.std.proofs.Common.{◌≡◌, ℕ, ◌<◌, ◌≤◌, List, [], ◌∷◌, ◌++◌, length, append-nil, Some, refl, sym, ap, ◌∙◌, subst, arith}
use Rattle.std.specs.List.{AllByRecursion}
use Rattle.polynomials.specs.Primes.{IsPrime}
use Rattle.polynomials.specs.Polynomials.{Polynomial}
use Rattle.polynomials.specs.Views.{is_constant}
use Rattle.polynomials.proofs.InitialLemmas.{initial_of-lead_in}
use Rattle.polynomials.proofs.MainVariables.{degree_in_main_var}
use Rattle.polynomials.proofs.Monomialwise.{EachMonomial}
use Rattle.zero_sets.specs.Systems.{PolynomialSystem}
use Rattle.zero_sets.specs.Tasks.{Task}
use Rattle.zero_sets.specs.ZeroSets.{IsTriangular}
use Rattle.division_rules.specs.Within.{and_then}
use Rattle.impose_rules.specs.Impose.{impose_children, step_to_fitting}
use Rattle.finish_rules.specs.Leaves.{Leaf}
use Rattle.case_rules.specs.Cases.{step_by_queue, case_step}
use Rattle.case_laws.specs.Lawful.{IsLawfulPolynomial, AreLawfulPolynomials}
use Rattle.step_bounds.specs.Bounds.{LinearSystemsAreNeverStopped}
use Rattle.step_bounds.specs.Terms.{total_degree, HasVariablesBelow}
use Rattle.step_bounds.proofs.FinishedSteps.{HasConstantInitial, HasRemainder, ReducesToZero, finish_straight}
use Rattle.step_bounds.proofs.Linear.{IsLinearMonomial, IsLinear, linear_lead, constant_passes}
use Rattle.step_bounds.proofs.LinearChildren.{AreLinear, IsLinearTask, linear_monic, imposed_straight}
use Rattle.step_bounds.proofs.LinearReductions.{IsDone, reduction_reached, done_reduces}
use Rattle.step_bounds.proofs.StraightSystems.{each_nonzero, never_stopped}
use Rattle.step_bounds.proofs.StraightTrees.{IsStraight, IsGoodBelow, straight_implied}

module _ (p n k w : ℕ) (prime : IsPrime p) (wide : k < w) where
  module _ (chain : List Polynomial) (linear : AreLinear p n k chain) (triangular : IsTriangular chain) where
    -- each remainder fits
    remainders_fit : (ns fs : List Polynomial) → AreLinear p n k fs → AllByRecursion (HasRemainder p n w chain ns) fs
    remainders_fit ns [] each = tt
    remainders_fit ns (f ∷ fs) each =
        let (g, made, at) = reduction_reached p n k w prime wide chain linear triangular f each.0 in
        ((g, ap (λ o. and_then o (λ h. Some h.first)) made), remainders_fit ns fs each.1)

    -- what is done reduces to 0
    done_zero : (ns fs : List Polynomial) → AllByRecursion (λ f. IsLinear p n k f × IsDone p n k w prime wide chain linear triangular f) fs → AllByRecursion (ReducesToZero p n w chain ns) fs
    done_zero ns [] each = tt
    done_zero ns (f ∷ fs) each =
        let (g, made, at) = reduction_reached p n k w prime wide chain linear triangular f each.0.0 in
        let null = done_reduces p n k w prime wide chain linear triangular f g each.0.0 each.0.1 made at in
        (ap (λ o. and_then o (λ h. Some h.first)) made ∙ ap (λ x. Some x) null, done_zero ns fs each.1)

  -- initials are constant
  constant_initials : (ts : List Polynomial) → AreLinear p n k ts → AllByRecursion HasConstantInitial ts
  constant_initials [] each = tt
  constant_initials (t ∷ ts) each = (
    (λ v main.
        let l = linear_lead p n k w prime v t each.0 (degree_in_main_var v t main) in
        ap is_constant (initial_of-lead_in v t main ∙ l.3) ∙ constant_passes n l.0),
    constant_initials ts each.1,
  )

-- the step is straight
linear_step_straight : (n k w : ℕ) (system : PolynomialSystem) (prime : IsPrime system.prime) (wide : k < w) (task : Task) → IsLinearTask system.prime n k w prime wide system.inputs task → IsStraight (IsGoodBelow (IsLinearTask system.prime n k w prime wide system.inputs) (λ x. length x.queue) (length task.queue)) (case_step n w system task)
linear_step_straight n k w system prime wide task good = by_queue task.queue refl
  where
    IsLess : Task → Type 0
    IsLess kid = IsGoodBelow (IsLinearTask system.prime n k w prime wide system.inputs) (λ x. length x.queue) (length task.queue) kid

    by_queue : (queue : List Polynomial) → task.queue ≡ queue → IsStraight IsLess (step_by_queue n w system task queue)
    by_queue [] starts = finish_straight system.prime n w task.chain task.nonzero IsLess system.inputs (constant_initials system.prime n k w prime wide task.chain good.linear) (remainders_fit system.prime n k w prime wide task.chain good.linear good.triangular task.nonzero task.nonzero good.nonzero) (done_zero system.prime n k w prime wide task.chain good.linear good.triangular task.nonzero system.inputs (subst (AllByRecursion (λ f. IsLinear system.prime n k f × IsDone system.prime n k w prime wide task.chain good.linear good.triangular f)) (sym (good.parts ∙ ap (λ q. good.done ++ q) starts ∙ append-nil good.done)) good.each_done))
    by_queue (f ∷ rest) starts =
        let queue = subst (AreLinear system.prime n k) starts good.queue in
        straight_implied (λ kid. IsLinearTask system.prime n k w prime wide system.inputs kid × (kid.queue ≡ rest)) IsLess (λ kid of_kid. record { good = of_kid.0; less = let shorter = ap length of_kid.1 in let longer = ap length starts in omega (arith, shorter, longer) }) (step_to_fitting (impose_children system.prime n w task.chain rest task.nonzero f)) (imposed_straight system.prime n k w prime wide system.inputs task.chain task.nonzero rest good.done good.linear good.triangular good.nonzero queue.1 f queue.0 (good.parts ∙ ap (λ q. good.done ++ q) starts) good.each_done Leaf)

-- linear polynomials, from what is lawful and of total degree at most 1
linear_lawful : (p n k : ℕ) (f : Polynomial) → IsLawfulPolynomial p n k f → total_degree f ≤ 1 → IsLinear p n k f
linear_lawful p n k f of_f low = record { canonical = of_f.canonical; monomials = go f low of_f.named }
  where
    go : (f : Polynomial) → total_degree f ≤ 1 → HasVariablesBelow k f → EachMonomial (IsLinearMonomial k) f
    go [] low below = tt
    go (t ∷ f) low below = ((omega (arith, low), λ v past. let none = below v past in omega (arith, none)), go f (omega (arith, low)) (λ v past. let none = below v past in omega (arith, none)))

linear_all : (p n k : ℕ) (fs : List Polynomial) → AreLawfulPolynomials p n k fs → AllByRecursion (λ f. total_degree f ≤ 1) fs → AreLinear p n k fs
linear_all p n k [] lawful low = tt
linear_all p n k (f ∷ fs) lawful low = (linear_lawful p n k f lawful.0 low.0, linear_all p n k fs lawful.1 low.1)

-- the law of linear systems
pub linear_systems_are_never_stopped : LinearSystemsAreNeverStopped
linear_systems_are_never_stopped n k w steps system lawful low enough wide =
    let p = system.prime in
    let inputs = linear_all p n k system.inputs lawful.inputs low.inputs in
    let nonzero = linear_all p n k system.nonzero lawful.nonzero low.nonzero in
    never_stopped n k w steps system lawful (IsLinearTask p n k w lawful.prime wide system.inputs) (linear_step_straight n k w system lawful.prime wide) (record {
      linear = tt;
      triangular = tt;
      queue = inputs;
      nonzero = each_nonzero p (IsLinear p n k) (linear_monic p n k w lawful.prime wide) [] system.nonzero tt nonzero;
      done = [];
      parts = refl;
      each_done = tt;
    }) enough
