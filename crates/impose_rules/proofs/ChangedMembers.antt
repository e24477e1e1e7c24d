-- A triangular set with a polynomial at its main variable has it there, and the others as before.
use Rattle.std.proofs.Common.{◌≡◌, ◌≢◌, ◌⊎◌, inl, inr, ℕ, suc, ◌<◌, ◌≤◌, true, false, List, [], ◌∷◌, ◌++◌, Option, Some, refl, sym, ap, ap₂, ◌∙◌, subst, arith}
use Rattle.std.proofs.lemmas.Bool.{eq-eqb, ne_eqb, lt-ltb, le-ltb, cases_order}
use Rattle.polynomials.specs.Polynomials.{Polynomial}
use Rattle.polynomials.specs.Views.{main_var}
use Rattle.zero_sets.specs.ZeroSets.{IsTriangularFrom, is_variable, member_in, is_variable_below, members_below}
use Rattle.impose_rules.specs.Chains.{is_variable_above, members_above, with_member}
use Rattle.impose_rules.specs.Laws.{MemberIsChanged}
use Rattle.impose_rules.proofs.ChainParts.{with_member_triangular}

-- the first member, by its main variable
member_first : (u : ℕ) (t : Polynomial) (chain : List Polynomial) → main_var t ≡ Some u → member_in u (t ∷ chain) ≡ Some t
member_first u t chain e = ap (λ b. elim b as (λ _. Option Polynomial) [ true ↦ Some t | false ↦ member_in u chain ]) (ap (is_variable u) e ∙ eq-eqb u u refl)

-- or a later one
member_later : (u x : ℕ) (t : Polynomial) (chain : List Polynomial) → main_var t ≡ Some x → x ≢ u → member_in u (t ∷ chain) ≡ member_in u chain
member_later u x t chain e other = ap (λ b. elim b as (λ _. Option Polynomial) [ true ↦ Some t | false ↦ member_in u chain ]) (ap (is_variable u) e ∙ ne_eqb x u other)

-- members from a greater variable on are none of those below
below_none : (v : ℕ) (t : Polynomial) (x : ℕ) (chain : List Polynomial) → main_var t ≡ Some x → v ≤ x → members_below v (t ∷ chain) ≡ members_below v chain
below_none v t x chain e up = ap (λ b. elim b as (λ _. List Polynomial) [ true ↦ t ∷ members_below v chain | false ↦ members_below v chain ]) (ap (is_variable_below v) e ∙ le-ltb x v up)

below_one : (v : ℕ) (t : Polynomial) (x : ℕ) (chain : List Polynomial) → main_var t ≡ Some x → x < v → members_below v (t ∷ chain) ≡ t ∷ members_below v chain
below_one v t x chain e less = ap (λ b. elim b as (λ _. List Polynomial) [ true ↦ t ∷ members_below v chain | false ↦ members_below v chain ]) (ap (is_variable_below v) e ∙ lt-ltb x v less)

above_none : (v : ℕ) (t : Polynomial) (x : ℕ) (chain : List Polynomial) → main_var t ≡ Some x → x ≤ v → members_above v (t ∷ chain) ≡ members_above v chain
above_none v t x chain e up = ap (λ b. elim b as (λ _. List Polynomial) [ true ↦ t ∷ members_above v chain | false ↦ members_above v chain ]) (ap (is_variable_above v) e ∙ le-ltb v x up)

above_one : (v : ℕ) (t : Polynomial) (x : ℕ) (chain : List Polynomial) → main_var t ≡ Some x → v < x → members_above v (t ∷ chain) ≡ t ∷ members_above v chain
above_one v t x chain e less = ap (λ b. elim b as (λ _. List Polynomial) [ true ↦ t ∷ members_above v chain | false ↦ members_above v chain ]) (ap (is_variable_above v) e ∙ lt-ltb v x less)

-- those from a greater variable on are all above
all_above : (v : ℕ) (chain : List Polynomial) → IsTriangularFrom (suc v) chain → (members_below v chain ≡ []) × (members_above v chain ≡ chain)
all_above v chain h = from_there v (suc v) chain (omega arith) h
  where
    from_there : (v x : ℕ) (chain : List Polynomial) → v < x → IsTriangularFrom x chain → (members_below v chain ≡ []) × (members_above v chain ≡ chain)
    from_there v x [] less h = (refl, refl)
    from_there v x (t ∷ chain) less h =
        let up = h.2 in
        let rest = from_there v (suc h.0) chain (omega arith) h.3 in
        (below_none v t h.0 chain h.1 (omega arith) ∙ rest.0, above_one v t h.0 chain h.1 (omega arith) ∙ ap (λ ts. t ∷ ts) rest.1)

module _ (v : ℕ) (t : Polynomial) (main : main_var t ≡ Some v) where
  -- a lesser first member stays first
  lesser_first : (s : Polynomial) (x : ℕ) (chain : List Polynomial) → main_var s ≡ Some x → x < v → with_member v t (s ∷ chain) ≡ s ∷ with_member v t chain
  lesser_first s x chain e less = ap₂ (λ lesser greater. lesser ++ t ∷ greater) (below_one v s x chain e less) (above_none v s x chain e (omega arith))

  -- in place of the first member
  same_first : (s : Polynomial) (chain : List Polynomial) → main_var s ≡ Some v → IsTriangularFrom (suc v) chain → with_member v t (s ∷ chain) ≡ t ∷ chain
  same_first s chain e h =
      let all = all_above v chain h in
      ap₂ (λ lesser greater. lesser ++ t ∷ greater) (below_none v s v chain e (omega arith) ∙ all.0) (above_none v s v chain e (omega arith) ∙ all.1)

  -- before greater members
  greater_first : (chain : List Polynomial) → IsTriangularFrom (suc v) chain → with_member v t chain ≡ t ∷ chain
  greater_first chain h =
      let all = all_above v chain h in
      ap₂ (λ lesser greater. lesser ++ t ∷ greater) all.0 all.1

  -- it is found there
  found_there : (x : ℕ) (chain : List Polynomial) → IsTriangularFrom x chain → member_in v (with_member v t chain) ≡ Some t
  found_there x [] h = member_first v t [] main
  found_there x (s ∷ chain) h = go (cases_order h.0 v) (found_there (suc h.0) chain h.3)
    where
      go : (h.0 ≡ v) ⊎ ((h.0 < v) ⊎ (v < h.0)) → member_in v (with_member v t chain) ≡ Some t → member_in v (with_member v t (s ∷ chain)) ≡ Some t
      go (inl same) later = ap (member_in v) (same_first s chain (h.1 ∙ ap Some same) (subst (λ y. IsTriangularFrom (suc y) chain) same h.3)) ∙ member_first v t chain main
      go (inr (inl less)) later = ap (member_in v) (lesser_first s h.0 chain h.1 less) ∙ member_later v h.0 s (with_member v t chain) h.1 (λ e. omega arith) ∙ later
      go (inr (inr more)) later = ap (member_in v) (greater_first (s ∷ chain) (h.0, h.1, omega arith, h.3)) ∙ member_first v t (s ∷ chain) main

  -- and the others as before
  found_elsewhere : (u x : ℕ) (chain : List Polynomial) → u ≢ v → IsTriangularFrom x chain → member_in u (with_member v t chain) ≡ member_in u chain
  found_elsewhere u x [] other h = member_later u v t [] main (λ e. other (sym e))
  found_elsewhere u x (s ∷ chain) other h = go (cases_order h.0 v) (found_elsewhere u (suc h.0) chain other h.3)
    where
      go : (h.0 ≡ v) ⊎ ((h.0 < v) ⊎ (v < h.0)) → member_in u (with_member v t chain) ≡ member_in u chain → member_in u (with_member v t (s ∷ chain)) ≡ member_in u (s ∷ chain)
      go (inl same) later = ap (member_in u) (same_first s chain (h.1 ∙ ap Some same) (subst (λ y. IsTriangularFrom (suc y) chain) same h.3)) ∙ member_later u v t chain main (λ e. other (sym e)) ∙ sym (member_later u h.0 s chain h.1 (λ e. other (sym e ∙ same)))
      go (inr (inl less)) later = ap (member_in u) (lesser_first s h.0 chain h.1 less) ∙ ap (λ o. elim (is_variable u (main_var s)) as (λ _. Option Polynomial) [ true ↦ Some s | false ↦ o ]) later
      go (inr (inr more)) later = ap (member_in u) (greater_first (s ∷ chain) (h.0, h.1, omega arith, h.3)) ∙ member_later u v t (s ∷ chain) main (λ e. other (sym e))

-- the law of changed members
pub member_is_changed : MemberIsChanged
member_is_changed v t chain main h = record {
  triangular = with_member_triangular v t chain main h;
  there = found_there v t main 0 chain h;
  elsewhere = λ u other. found_elsewhere v t main u 0 chain other h;
}
