-- Members of a chain, and the reduction by its members from a place on.
use Rattle.std.proofs.Common.{◌≡◌, ◌<◌, ◌≤◌, ◌+◌, ◌-◌, ℕ, zero, suc, List, [], ◌∷◌, drop, Some, None, sym, ap, ◌∙◌, subst, inl, inr, arith}
use Rattle.std.specs.List.{slice_get}
use Rattle.std.proofs.lemmas.Bool.{cases_lt}
use Rattle.polynomials.specs.Polynomials.{Polynomial}
use Rattle.polynomials.specs.Views.{degree_in, main_var}
use Rattle.polynomials.proofs.MainVariables.{degree_in_main_var}
use Rattle.polynomials.proofs.ExponentsBelow.{degree_in-past}
use Rattle.item_lists.proofs.Places.{drop_at}
use Rattle.division_rules.specs.Operations.{Operations}
use Rattle.division_rules.specs.Rows.{Row, first_entries}
use Rattle.division_rules.specs.Chains.{EachRow}
use Rattle.division_rules.specs.Lists.{variable_or_zero}
use Rattle.division_rules.specs.PolynomialRows.{IsPolynomialRow, ArePolynomialRows}
use Rattle.polynomials.specs.Triangular.{IsTriangularFrom}
use Rattle.division_rules.specs.Within.{and_then, sparse_remainder_within, reduction_within}

-- what holds of each row holds of that at a place
pub EachRow-at : {A : Type 0} (P : Row A → Type 0) (rows : List (Row A)) (i : ℕ) (t : Row A) → EachRow P rows → slice_get rows i ≡ Some t → P t
EachRow-at P [] i t each e = cc
EachRow-at P (u ∷ rows) zero t each e = let same : u ≡ t = cc in subst P same each.0
EachRow-at P (u ∷ rows) (suc i) t each e = EachRow-at P rows i t each.1 e

-- the member at a place has a main variable
main_at : (v : ℕ) (rows : List (Row Polynomial)) (i : ℕ) (t : Row Polynomial) → IsTriangularFrom v (first_entries rows) → slice_get rows i ≡ Some t → (u : ℕ) × (main_var t.first ≡ Some u)
main_at v [] i t are e = cc
main_at v (s ∷ rows) zero t are e = let same : s ≡ t = cc in (are.0, sym (ap (λ (x : Row Polynomial). main_var x.first) same) ∙ are.1)
main_at v (s ∷ rows) (suc i) t are e = main_at (suc are.0) rows i t are.3 e

-- which occurs in it
pub occurs_at : (rows : List (Row Polynomial)) (i : ℕ) (t : Row Polynomial) → IsTriangularFrom 0 (first_entries rows) → slice_get rows i ≡ Some t → 1 ≤ degree_in (variable_or_zero (main_var t.first)) t.first
occurs_at rows i t are e =
    let main = main_at 0 rows i t are e in
    subst (λ v. 1 ≤ degree_in v t.first) (sym (ap variable_or_zero main.1)) (degree_in_main_var main.0 t.first main.1)

-- and is a variable
pub variable_at : (p n : ℕ) (rows : List (Row Polynomial)) (i : ℕ) (t : Row Polynomial) → ArePolynomialRows p n rows → IsTriangularFrom 0 (first_entries rows) → slice_get rows i ≡ Some t → variable_or_zero (main_var t.first) < n
variable_at p n rows i t canonical are e = go (variable_or_zero (main_var t.first)) (occurs_at rows i t are e)
  where
    go : (v : ℕ) → 1 ≤ degree_in v t.first → v < n
    go v occurs = elim (cases_lt v n) [
      | inl less ↦ less
      | inr past ↦ let none = degree_in-past p n v t.first past (EachRow-at (IsPolynomialRow p n) rows i t canonical e).0 in absurd (omega arith)
    ]

module _ {A : Type 0} (o : Operations A) (w : ℕ) (f : Row A) where
  -- by one more member, the last of those that weren't gone through
  pub reduction_within-turn : (chain : List (Row A)) (i : ℕ) (t r : Row A) → 0 < i → slice_get chain (i - 1) ≡ Some t → reduction_within o w (drop i chain) f ≡ Some r → reduction_within o w (drop (i - 1) chain) f ≡ sparse_remainder_within o w (o.views.main t.first) r t
  reduction_within-turn chain i t r some at e =
      ap (λ ts. reduction_within o w ts f) (drop_at chain (i - 1) t at)
      ∙ (ap (λ j. and_then (reduction_within o w (drop j chain) f) (λ g. sparse_remainder_within o w (o.views.main t.first) g t)) back
      ∙ ap (λ z. and_then z (λ g. sparse_remainder_within o w (o.views.main t.first) g t)) e)
    where
      back : (i - 1) + 1 ≡ i
      back = omega arith

  -- where there is none by the members from a place on, there is none by all
  pub reduction_within-none : (chain : List (Row A)) (i : ℕ) → reduction_within o w (drop i chain) f ≡ None → reduction_within o w chain f ≡ None
  reduction_within-none chain zero e = e
  reduction_within-none [] (suc i) e = e
  reduction_within-none (t ∷ chain) (suc i) e = ap (λ z. and_then z (λ g. sparse_remainder_within o w (o.views.main t.first) g t)) (reduction_within-none chain i e)
