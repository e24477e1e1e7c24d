-- Systems in one variable are never stopped.
use Rattle.std.proofs.Common.{◌≡◌, inl, inr, ℕ, ◌<◌, ◌≤◌, List, [], ◌∷◌, ◌++◌, length, append-nil, Some, refl, sym, ap, ◌∙◌, subst, arith}
use Rattle.std.proofs.lemmas.Bool.{cases_lt}
use Rattle.std.specs.List.{AllByRecursion}
use Rattle.polynomials.specs.Primes.{IsPrime}
use Rattle.polynomials.specs.Polynomials.{Polynomial}
use Rattle.polynomials.specs.Views.{degree_in, is_constant}
use Rattle.polynomials.proofs.InitialLemmas.{initial_of-lead_in}
use Rattle.zero_sets.specs.Systems.{PolynomialSystem}
use Rattle.zero_sets.specs.Tasks.{Task}
use Rattle.division_rules.specs.Within.{and_then}
use Rattle.impose_rules.specs.Impose.{impose_children, step_to_fitting}
use Rattle.finish_rules.specs.Leaves.{Leaf}
use Rattle.case_rules.specs.Cases.{step_by_queue, case_step}
use Rattle.case_laws.specs.Lawful.{AreLawfulPolynomials, IsLawfulSystem}
use Rattle.step_bounds.specs.Bounds.{IsNeverStopped, SystemsInOneVariableAreNeverStopped}
use Rattle.step_bounds.proofs.ConstantLeads.{lead_constant}
use Rattle.step_bounds.proofs.Divisors.{remainder_zero}
use Rattle.step_bounds.proofs.FinishedSteps.{HasConstantInitial, HasRemainder, ReducesToZero, finish_straight}
use Rattle.step_bounds.proofs.OneVariable.{AreLow, IsLowChain, IsLeftBy, main_zero, low_monic, reduction_low}
use Rattle.step_bounds.proofs.OneVariableChildren.{low_straight}
use Rattle.step_bounds.proofs.OneVariableTasks.{IsDoneBy, AreDoneBy, IsLowTask, IsLowChild}
use Rattle.step_bounds.proofs.StraightSystems.{each_nonzero, never_stopped}
use Rattle.step_bounds.proofs.StraightTrees.{IsStraight, IsGoodBelow, straight_implied}
use Rattle.step_bounds.proofs.Univariate.{IsLow}

module _ (p n d w : ℕ) (prime : IsPrime p) (wide : d < w) (small : d ≤ 65535) (chain : List Polynomial) (of_chain : IsLowChain p n d chain) where
  -- each remainder fits
  remainders_fit : (ns fs : List Polynomial) → AreLow p n d fs → AllByRecursion (HasRemainder p n w chain ns) fs
  remainders_fit ns [] each = tt
  remainders_fit ns (f ∷ fs) each =
      let (g, left) = reduction_low p n d w prime wide small chain of_chain f each.0 in
      ((g, ap (λ o. and_then o (λ h. Some h.first)) left.made), remainders_fit ns fs each.1)

  -- what is done reduces to 0
  done_zero : (ns fs : List Polynomial) → AreDoneBy p n d chain fs → AllByRecursion (ReducesToZero p n w chain ns) fs
  done_zero ns [] each = tt
  done_zero ns (f ∷ fs) each =
      let (g, left) = reduction_low p n d w prime wide small chain of_chain f each.0.0 in
      let null = zero_by chain of_chain g left.left each.0.1 in
      (ap (λ o. and_then o (λ h. Some h.first)) left.made ∙ ap (λ x. Some x) null, done_zero ns fs each.1)
    where
      zero_by : (c : List Polynomial) → IsLowChain p n d c → (g : Polynomial) → IsLeftBy p n d w prime wide small c f g → IsDoneBy p n d c f → g ≡ []
      zero_by [] of_c g same null = same ∙ null
      zero_by (t ∷ []) of_c g at by = remainder_zero p n d w prime wide small f t g each.0.0.canonical of_c.0 at.0 by at.1
      zero_by (t ∷ u ∷ more) of_c g at by = absurd of_c

-- the initial is constant
constant_initials : (p n d w : ℕ) → IsPrime p → d < w → d ≤ 65535 → (chain : List Polynomial) → IsLowChain p n d chain → AllByRecursion HasConstantInitial chain
constant_initials p n d w prime wide small [] of_chain = tt
constant_initials p n d w prime wide small (t ∷ []) of_chain = ((λ v main. ap is_constant (initial_of-lead_in 0 t (main_zero p n d w prime wide small t of_chain.0 of_chain.1)) ∙ lead_constant t of_chain.0.below), tt)
constant_initials p n d w prime wide small (t ∷ u ∷ more) of_chain = absurd of_chain

module _ (n d w : ℕ) (system : PolynomialSystem) (prime : IsPrime system.prime) (wide : d < w) (small : d ≤ 65535) where
  -- the step is straight
  low_step_straight : (task : Task) → IsLowTask system.prime n d system.inputs task → IsStraight (IsGoodBelow (IsLowTask system.prime n d system.inputs) (λ x. length x.queue) (length task.queue)) (case_step n w system task)
  low_step_straight task good = by_queue task.queue refl
    where
      IsLess : Task → Type 0
      IsLess kid = IsGoodBelow (IsLowTask system.prime n d system.inputs) (λ x. length x.queue) (length task.queue) kid

      by_queue : (queue : List Polynomial) → task.queue ≡ queue → IsStraight IsLess (step_by_queue n w system task queue)
      by_queue [] starts = finish_straight system.prime n w task.chain task.nonzero IsLess system.inputs (constant_initials system.prime n d w prime wide small task.chain good.chain) (remainders_fit system.prime n d w prime wide small task.chain good.chain task.nonzero task.nonzero good.nonzero) (done_zero system.prime n d w prime wide small task.chain good.chain task.nonzero system.inputs (subst (AreDoneBy system.prime n d task.chain) (sym (good.parts ∙ ap (λ q. good.done ++ q) starts ∙ append-nil good.done)) good.each_done))
      by_queue (f ∷ rest) starts =
          let queue = subst (AreLow system.prime n d) starts good.queue in
          straight_implied (IsLowChild system.prime n d system.inputs rest) IsLess (λ kid of_kid. record { good = of_kid.0; less = let shorter = ap length of_kid.1 in let longer = ap length starts in omega (arith, shorter, longer) }) (step_to_fitting (impose_children system.prime n w task.chain rest task.nonzero f)) (low_straight system.prime n d w prime wide small system.inputs rest good.done task.nonzero queue.1 good.nonzero f queue.0 (good.parts ∙ ap (λ q. good.done ++ q) starts) Leaf task.chain good.chain good.each_done)

  low_ends : (steps : ℕ) → IsLawfulSystem n 1 system → AreLow system.prime n d system.inputs → AreLow system.prime n d system.nonzero → length system.inputs < steps → IsNeverStopped n w steps system
  low_ends steps lawful inputs nonzero enough = never_stopped n 1 w steps system lawful (IsLowTask system.prime n d system.inputs) low_step_straight (record {
    chain = tt;
    queue = inputs;
    nonzero = each_nonzero system.prime (IsLow system.prime n d) (low_monic system.prime n d w prime wide small) [] system.nonzero tt nonzero;
    done = [];
    parts = refl;
    each_done = tt;
  }) enough

-- lawful polynomials of low degree
low_lawful : (p n d : ℕ) (fs : List Polynomial) → AreLawfulPolynomials p n 1 fs → AllByRecursion (λ f. degree_in 0 f ≤ d) fs → AreLow p n d fs
low_lawful p n d [] lawful low = tt
low_lawful p n d (f ∷ fs) lawful low = (record { canonical = lawful.0.canonical; below = lawful.0.named; low = low.0 }, low_lawful p n d fs lawful.1 low.1)

-- and without a bound of their own
low_small : (p n : ℕ) (fs : List Polynomial) → AreLawfulPolynomials p n 1 fs → AreLow p n 65535 fs
low_small p n [] lawful = tt
low_small p n (f ∷ fs) lawful = (record { canonical = lawful.0.canonical; below = lawful.0.named; low = lawful.0.small 0 }, low_small p n fs lawful.1)

-- the law of systems in one variable
pub systems_in_one_variable_are_never_stopped : SystemsInOneVariableAreNeverStopped
systems_in_one_variable_are_never_stopped n d w steps system lawful low enough wide = elim (cases_lt 65535 d) [
  | inl great ↦ low_ends n 65535 w system lawful.prime (omega (arith, great, wide)) (omega arith) steps lawful (low_small system.prime n system.inputs lawful.inputs) (low_small system.prime n system.nonzero lawful.nonzero) enough
  | inr few ↦ low_ends n d w system lawful.prime wide (omega (arith, few)) steps lawful (low_lawful system.prime n d system.inputs lawful.inputs low.inputs) (low_lawful system.prime n d system.nonzero lawful.nonzero low.nonzero) enough
]
