-- Powers within a width, by one more factor at a time.
use Rattle.std.proofs.Common.{◌≡◌, ◌<◌, ◌≤◌, ◌+◌, ℕ, zero, suc, Some, None, sym, ap, ◌∙◌, inl, inr, arith}
use Rattle.std.proofs.lemmas.Bool.{cases_lt}
use Rattle.division_rules.specs.Operations.{Operations}
use Rattle.division_rules.specs.Within.{and_then, times_within, power_of_within}

module _ {A : Type 0} (o : Operations A) (w : ℕ) (a : A) where
  -- one more factor
  pub power_of_within-next : (k : ℕ) (x : A) → 0 < k → power_of_within o w a k ≡ Some x → power_of_within o w a (k + 1) ≡ times_within o w x a
  power_of_within-next zero x some e = absurd (omega arith)
  power_of_within-next (suc k) x some e = ap (power_of_within o w a) (one_more k) ∙ ap (λ y. and_then y (λ z. times_within o w z a)) e
    where
      one_more : (j : ℕ) → suc j + 1 ≡ suc (suc j)
      one_more j = omega arith

  -- where a power isn't there, no greater one is
  pub power_of_within-none : (k e : ℕ) → 0 < k → k ≤ e → power_of_within o w a k ≡ None → power_of_within o w a e ≡ None
  power_of_within-none k zero some most none = absurd (omega arith)
  power_of_within-none k (suc zero) some most none = let same : k ≡ suc zero = omega arith in let e = sym (ap (power_of_within o w a) same) ∙ none in cc
  power_of_within-none k (suc (suc e)) some most none = elim (cases_lt k (suc (suc e))) [
    | inl less ↦ ap (λ y. and_then y (λ z. times_within o w z a)) (power_of_within-none k (suc e) some (omega arith) none)
    | inr high ↦ let same : k ≡ suc (suc e) = omega arith in sym (ap (power_of_within o w a) same) ∙ none
  ]
