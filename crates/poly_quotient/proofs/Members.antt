-- Division by the members of a list in turn.
use Rattle.std.proofs.Common.{◌≡◌, ◌≢◌, ℕ, zero, suc, ◌+◌, ◌≤◌, Bool, true, false, List, [], ◌∷◌, length, drop, Some, None, refl, sym, ap, ◌∙◌}
use Rattle.std.specs.Prelude.{slice_get}
use Rattle.std.proofs.Math.ListN.{drop_of_length-le}
use Rattle.polynomials.specs.Polynomials.{Polynomial}
use Rattle.polynomials.specs.Views.{is_constant}
use Rattle.item_lists.proofs.Places.{drop_at}
use Rattle.division_rules.specs.Quotients.{without_factor, factor_bound, without_factors}
use Rattle.division_rules.proofs.Quotients.{quotient_within_of_zero}
use Rattle.poly_quotient.proofs.Removals.{varies_nonzero}

module _ (p w : ℕ) where
  -- 0 stays
  without_factor_of_zero : (b : Polynomial) → b ≢ [] → (k : ℕ) → without_factor p w b k [] ≡ []
  without_factor_of_zero b some zero = refl
  without_factor_of_zero b some (suc k) = ap (λ o. elim o as (λ _. Polynomial) [ None ↦ [] | Some q ↦ without_factor p w b k q ]) (quotient_within_of_zero p w b some) ∙ without_factor_of_zero b some k

  pub without_factors_of_zero : (bs : List Polynomial) → without_factors p w bs [] ≡ []
  without_factors_of_zero [] = refl
  without_factors_of_zero (b ∷ bs) = go (is_constant b) refl (without_factors_of_zero bs)
    where
      go : (c : Bool) → is_constant b ≡ c → without_factors p w bs [] ≡ [] → elim c as (λ _. Polynomial) [ true ↦ without_factors p w bs [] | false ↦ without_factors p w bs (without_factor p w b (factor_bound []) []) ] ≡ []
      go true e none = none
      go false e none = ap (without_factors p w bs) (without_factor_of_zero b (varies_nonzero b e) (factor_bound [])) ∙ none

  module _ (list : List Polynomial) (i : ℕ) (b left all : Polynomial) (at : slice_get list i ≡ Some b) where
    -- the first member that is left
    from_member : (c : Bool) → is_constant b ≡ c → without_factors p w (drop i list) left ≡ elim c as (λ _. Polynomial) [ true ↦ without_factors p w (drop (i + 1) list) left | false ↦ without_factors p w (drop (i + 1) list) (without_factor p w b (factor_bound left) left) ]
    from_member c e = ap (λ l. without_factors p w l left) (drop_at list i b at) ∙ ap (λ d. elim d as (λ _. Polynomial) [ true ↦ without_factors p w (drop (i + 1) list) left | false ↦ without_factors p w (drop (i + 1) list) (without_factor p w b (factor_bound left) left) ]) e

    -- a constant member is passed over
    pub member_passed : is_constant b ≡ true → without_factors p w (drop i list) left ≡ all → without_factors p w (drop (i + 1) list) left ≡ all
    member_passed e h = sym (from_member true e) ∙ h

    -- by another one is divided
    pub member_divided : (next : Polynomial) → is_constant b ≡ false → next ≡ without_factor p w b (factor_bound left) left → without_factors p w (drop i list) left ≡ all → without_factors p w (drop (i + 1) list) next ≡ all
    member_divided next e is h = ap (without_factors p w (drop (i + 1) list)) is ∙ sym (from_member false e) ∙ h

  -- at the end no member is left
  pub members_end : (list : List Polynomial) (i : ℕ) (left all : Polynomial) → length list ≤ i → without_factors p w (drop i list) left ≡ all → left ≡ all
  members_end list i left all end h = sym (ap (λ l. without_factors p w l left) (drop_of_length-le list end)) ∙ h
