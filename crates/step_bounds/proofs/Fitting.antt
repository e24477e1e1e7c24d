-- Steps of division whose products fit.
use Rattle.std.proofs.Common.{◌≡◌, ℕ, zero, suc, true, false, List, [], ◌∷◌, Option, Some, None, refl, sym, ap, ap₂, subst}
use Rattle.std.specs.List.{AllByRecursion}
use Rattle.polynomials.specs.Polynomials.{Polynomial, sum_of, product_of, negative_of}
use Rattle.polynomials.specs.Views.{lead_in, main_var}
use Rattle.polynomials.specs.Fits.{fits}
use Rattle.division_rules.specs.Lists.{list_operations, variable_or_zero}
use Rattle.division_rules.specs.Operations.{shifted_lead}
use Rattle.division_rules.specs.Rows.{Row, plain, plains, is_reduced_by, turns}
use Rattle.division_rules.specs.Within.{and_then, elimination_within, sparse_remainder_by_within, sparse_remainder_within, times_row_within, pseudo_remainder_by_within, reduction_within}
use Rattle.division_rules.proofs.Steps.{choose}

-- there is a result, and it is a polynomial without cofactors that meets Q
abbrev pub IsPlainOf : (Polynomial → Type 0) → Option (Row Polynomial) → Type 0
IsPlainOf Q o = (h : Polynomial) × (o ≡ Some (plain h)) × Q h

module _ (p n w : ℕ) where
  -- what an elimination makes
  abbrev pub eliminated : ℕ → Polynomial → Polynomial → Polynomial
  eliminated v f g = sum_of p (product_of p (lead_in v g) f) (negative_of p (product_of p (shifted_lead (list_operations p n) v f g) g))

  -- both of its products fit
  pub elimination_fits : (v : ℕ) (f g : Polynomial) → fits w (lead_in v g) f ≡ true → fits w (shifted_lead (list_operations p n) v f g) g ≡ true → elimination_within (list_operations p n) w v (plain f) (plain g) ≡ Some (plain (eliminated v f g))
  elimination_fits v f g first second = ap₂ (λ b d. and_then (and_then (elim b as (λ _. Option Polynomial) [ true ↦ Some (product_of p (lead_in v g) f) | false ↦ None ]) (λ x. and_then (elim d as (λ _. Option Polynomial) [ true ↦ Some (product_of p (shifted_lead (list_operations p n) v f g) g) | false ↦ None ]) (λ y. Some (sum_of p x (negative_of p y))))) (λ h. Some (plain h))) first second

  -- eliminations that keep Q, and whose products fit
  abbrev pub EliminationsFit : (Polynomial → Type 0) → ℕ → Polynomial → Type 0
  EliminationsFit Q v g = (f : Polynomial) → Q f → is_reduced_by (list_operations p n) v (plain g) (plain f) ≡ false → (fits w (lead_in v g) f ≡ true) × (fits w (shifted_lead (list_operations p n) v f g) g ≡ true) × Q (eliminated v f g)

  pub sparse_by_fits : (Q : Polynomial → Type 0) (v : ℕ) (g : Polynomial) → EliminationsFit Q v g → (k : ℕ) (f : Polynomial) → Q f → IsPlainOf Q (sparse_remainder_by_within (list_operations p n) w v (plain g) k (plain f))
  sparse_by_fits Q v g step zero f q = (f, refl, q)
  sparse_by_fits Q v g step (suc k) f q = choose (IsPlainOf Q) (is_reduced_by (list_operations p n) v (plain g) (plain f)) (Some (plain f)) (and_then (elimination_within (list_operations p n) w v (plain f) (plain g)) (λ h. sparse_remainder_by_within (list_operations p n) w v (plain g) k h)) (λ e. (f, refl, q)) (λ e.
      let made = step f q e in
      subst (λ o. IsPlainOf Q (and_then o (λ h. sparse_remainder_by_within (list_operations p n) w v (plain g) k h))) (sym (elimination_fits v f g made.0 made.1)) (sparse_by_fits Q v g step k (eliminated v f g) made.2))

  -- so with a reduction
  pub reduction_fits : (Q : Polynomial → Type 0) (chain : List Polynomial) → AllByRecursion (λ t. EliminationsFit Q (variable_or_zero (main_var t)) t) chain → (f : Polynomial) → Q f → IsPlainOf Q (reduction_within (list_operations p n) w (plains chain) (plain f))
  reduction_fits Q [] each f q = (f, refl, q)
  reduction_fits Q (t ∷ chain) each f q =
      let (h, made, kept) = reduction_fits Q chain each.1 f q in
      subst (λ o. IsPlainOf Q (and_then o (λ g. sparse_remainder_within (list_operations p n) w (variable_or_zero (main_var t)) g (plain t)))) (sym made) (sparse_by_fits Q (variable_or_zero (main_var t)) t each.0 (turns (list_operations p n) (variable_or_zero (main_var t)) h t) h kept)

  -- a multiplication of the row fits
  pub multiple_fits : (l f : Polynomial) → fits w l f ≡ true → times_row_within (list_operations p n) w l (plain f) ≡ Some (plain (product_of p l f))
  multiple_fits l f fit = ap (λ b. and_then (elim b as (λ _. Option Polynomial) [ true ↦ Some (product_of p l f) | false ↦ None ]) (λ h. Some (plain h))) fit

  -- so with a pseudo-remainder, where multiplications by the lead keep Q too
  pub pseudo_by_fits : (Q : Polynomial → Type 0) (v : ℕ) (g : Polynomial) → EliminationsFit Q v g → ((f : Polynomial) → Q f → (fits w (lead_in v g) f ≡ true) × Q (product_of p (lead_in v g) f)) → (k : ℕ) (f : Polynomial) → Q f → IsPlainOf Q (pseudo_remainder_by_within (list_operations p n) w v (plain g) k (plain f))
  pseudo_by_fits Q v g step multiply zero f q = (f, refl, q)
  pseudo_by_fits Q v g step multiply (suc k) f q = choose (λ o. IsPlainOf Q (and_then o (λ h. pseudo_remainder_by_within (list_operations p n) w v (plain g) k h))) (is_reduced_by (list_operations p n) v (plain g) (plain f)) (times_row_within (list_operations p n) w (lead_in v g) (plain f)) (elimination_within (list_operations p n) w v (plain f) (plain g)) (λ e.
      let made = multiply f q in
      subst (λ o. IsPlainOf Q (and_then o (λ h. pseudo_remainder_by_within (list_operations p n) w v (plain g) k h))) (sym (multiple_fits (lead_in v g) f made.0)) (pseudo_by_fits Q v g step multiply k (product_of p (lead_in v g) f) made.1)) (λ e.
      let made = step f q e in
      subst (λ o. IsPlainOf Q (and_then o (λ h. pseudo_remainder_by_within (list_operations p n) w v (plain g) k h))) (sym (elimination_fits v f g made.0 made.1)) (pseudo_by_fits Q v g step multiply k (eliminated v f g) made.2))
