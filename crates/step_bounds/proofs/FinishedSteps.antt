-- The step of a task without a queue, where the initials are constant and all inputs reduce to 0.
use Rattle.std.proofs.Common.{◌≡◌, ℕ, Bool, true, false, List, [], ◌∷◌, Option, Some, None, refl, sym, ap, ◌∙◌, subst}
use Rattle.std.specs.List.{AllByRecursion}
use Rattle.polynomials.specs.Polynomials.{Polynomial, is_zero}
use Rattle.polynomials.specs.Views.{main_var, initial_of, is_constant}
use Rattle.zero_sets.specs.Certificates.{variable_to_certify}
use Rattle.zero_sets.specs.Tasks.{Task}
use Rattle.division_rules.specs.Within.{and_then}
use Rattle.division_rules.proofs.Steps.{choose}
use Rattle.split_paths.specs.declared.splitter.Step.TheVariants.{Emit}
use Rattle.tree_laws.specs.Steps.{emitted_then, fitting_then, with_each_kid}
use Rattle.finish_rules.specs.Initials.{certified_then, certified}
use Rattle.finish_rules.specs.Leaves.{Leaf}
use Rattle.finish_rules.specs.Remainders.{remainder_of}
use Rattle.case_rules.specs.Finish.{has_zero_remainder, first_remainder, imposing, step_by_remainder, step_by_inputs, step_by_nonzero}
use Rattle.step_bounds.proofs.StraightTrees.{IsStraight}

-- where t has a main variable its initial is constant
abbrev pub HasConstantInitial : Polynomial → Type 0
HasConstantInitial t = (v : ℕ) → main_var t ≡ Some v → is_constant (initial_of t) ≡ true

-- then it needs no certificate
none_to_certify : (t : Polynomial) → HasConstantInitial t → variable_to_certify t ≡ None
none_to_certify t constant = go (main_var t) refl
  where
    go : (o : Option ℕ) → main_var t ≡ o → variable_to_certify t ≡ None
    go None e = choose (λ x. x ≡ None) (is_constant (initial_of t)) None (main_var t) (λ is. refl) (λ is_not. e)
    go (Some v) e = ap (λ b. elim b as (λ _. Option ℕ) [ true ↦ None | false ↦ main_var t ]) (constant v e)

module _ (p n w : ℕ) (chain ns : List Polynomial) where
  nothing_certified : (ts : List Polynomial) → AllByRecursion HasConstantInitial ts → certified p n w chain ns ts ≡ Emit []
  nothing_certified [] each = refl
  nothing_certified (t ∷ ts) each = ap (λ o. certified_then p n w chain ns t o (certified p n w chain ns ts)) (none_to_certify t each.0) ∙ nothing_certified ts each.1

  -- f has a remainder
  abbrev pub HasRemainder : Polynomial → Type 0
  HasRemainder f = (g : Polynomial) × (remainder_of p n w chain f ≡ Some g)

  zeros_fit : (fs : List Polynomial) → AllByRecursion HasRemainder fs → (b : Bool) × (has_zero_remainder p n w chain fs ≡ Some b)
  zeros_fit [] each = (false, refl)
  zeros_fit (f ∷ fs) each =
      let (g, made) = each.0 in
      let (b, rest) = zeros_fit fs each.1 in
      let found = choose (λ o. (d : Bool) × (o ≡ Some d)) (is_zero g) (Some true) (has_zero_remainder p n w chain fs) (λ e. (true, refl)) (λ e. (b, rest)) in
      (found.0, ap (λ o. and_then o (λ r. elim (is_zero r) [ true ↦ Some true | false ↦ has_zero_remainder p n w chain fs ])) made ∙ found.1)

  -- it is 0
  abbrev pub ReducesToZero : Polynomial → Type 0
  ReducesToZero f = remainder_of p n w chain f ≡ Some []

  none_found : (fs : List Polynomial) → AllByRecursion ReducesToZero fs → first_remainder p n w chain fs ≡ Some None
  none_found [] each = refl
  none_found (f ∷ fs) each = ap (λ o. and_then o (λ r. elim (is_zero r) as (λ _. Option (Option Polynomial)) [ true ↦ first_remainder p n w chain fs | false ↦ Some (Some r) ])) each.0 ∙ none_found fs each.1

  -- so the step has no child
  pub finish_straight : (P : Task → Type 0) (inputs : List Polynomial) → AllByRecursion HasConstantInitial chain → AllByRecursion HasRemainder ns → AllByRecursion ReducesToZero inputs → IsStraight {L = Leaf} P (fitting_then (has_zero_remainder p n w chain ns) (λ zero. step_by_nonzero p n w chain ns inputs zero))
  finish_straight P inputs constant fit null =
      let (b, made) = zeros_fit ns fit in
      subst (λ o. IsStraight P (fitting_then o (λ zero. step_by_nonzero p n w chain ns inputs zero))) (sym made) (go b)
    where
      go : (b : Bool) → IsStraight P (step_by_nonzero p n w chain ns inputs b)
      go true = tt
      go false = subst (λ m. IsStraight P (emitted_then (with_each_kid (imposing chain ns) m) (λ cs. step_by_inputs p n w chain ns inputs cs))) (sym (nothing_certified chain constant)) (subst (λ o. IsStraight P (fitting_then o (λ found. step_by_remainder chain ns [] found))) (sym (none_found inputs null)) tt)
