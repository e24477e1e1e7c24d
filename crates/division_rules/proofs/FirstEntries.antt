-- Eliminations, remainders and reductions have the same first entries with cofactors and without.
use Rattle.std.proofs.Common.{◌≡◌, ℕ, zero, suc, Bool, true, false, List, [], ◌∷◌, refl, ap, ◌∙◌}
use Rattle.division_rules.specs.Operations.{Operations, lead}
use Rattle.division_rules.specs.Rows.{Row, plain, elimination, is_reduced_by, sparse_remainder_by, sparse_remainder, turns, times_row, pseudo_remainder_by, pseudo_remainder, reduction}

-- a row without its cofactors
abbrev pub first_alone : {A : Type 0} → Row A → Row A
first_alone f = plain f.first

-- rows without their cofactors
abbrev pub firsts_alone : {A : Type 0} → List (Row A) → List (Row A)
firsts_alone [] = []
firsts_alone (t ∷ chain) = first_alone t ∷ firsts_alone chain

-- a choice of rows, without cofactors
first_of_choice : {A : Type 0} (b : Bool) (f g x y : Row A) → first_alone f ≡ x → first_alone g ≡ y → first_alone (elim b [ true ↦ f | false ↦ g ]) ≡ elim b [ true ↦ x | false ↦ y ]
first_of_choice true f g x y hf hg = hf
first_of_choice false f g x y hf hg = hg

module _ {A : Type 0} (o : Operations A) where
  -- the sparse remainder
  pub first-sparse_remainder_by : (v : ℕ) (g : Row A) (k : ℕ) (f : Row A) → first_alone (sparse_remainder_by o v g k f) ≡ sparse_remainder_by o v (first_alone g) k (first_alone f)
  first-sparse_remainder_by v g zero f = refl
  first-sparse_remainder_by v g (suc k) f = first_of_choice (is_reduced_by o v g f) f (sparse_remainder_by o v g k (elimination o v f g)) (first_alone f) (sparse_remainder_by o v (first_alone g) k (elimination o v (first_alone f) (first_alone g))) refl (first-sparse_remainder_by v g k (elimination o v f g))

  -- the same with the turns that bound the eliminations
  pub first-sparse_remainder : (v : ℕ) (f g : Row A) → first_alone (sparse_remainder o v f g) ≡ sparse_remainder o v (first_alone f) (first_alone g)
  first-sparse_remainder v f g = first-sparse_remainder_by v g (turns o v f.first g.first) f

  -- the pseudo-remainder
  pub first-pseudo_remainder_by : (v : ℕ) (g : Row A) (k : ℕ) (f : Row A) → first_alone (pseudo_remainder_by o v g k f) ≡ pseudo_remainder_by o v (first_alone g) k (first_alone f)
  first-pseudo_remainder_by v g zero f = refl
  first-pseudo_remainder_by v g (suc k) f = first-pseudo_remainder_by v g k (elim (is_reduced_by o v g f) [ true ↦ times_row o l f | false ↦ elimination o v f g ]) ∙ ap (pseudo_remainder_by o v (first_alone g) k) (first_of_choice (is_reduced_by o v g f) (times_row o l f) (elimination o v f g) (times_row o l (first_alone f)) (elimination o v (first_alone f) (first_alone g)) refl refl)
    where
      l : A
      l = lead o v g.first

  -- the same with one turn more than the degrees differ
  pub first-pseudo_remainder : (v : ℕ) (f g : Row A) → first_alone (pseudo_remainder o v f g) ≡ pseudo_remainder o v (first_alone f) (first_alone g)
  first-pseudo_remainder v f g = first-pseudo_remainder_by v g (turns o v f.first g.first) f

  -- the reduction by a chain
  pub first-reduction : (chain : List (Row A)) (f : Row A) → first_alone (reduction o chain f) ≡ reduction o (firsts_alone chain) (first_alone f)
  first-reduction [] f = refl
  first-reduction (t ∷ chain) f = first-sparse_remainder (o.views.main t.first) (reduction o chain f) t ∙ ap (λ h. sparse_remainder o (o.views.main t.first) h (first_alone t)) (first-reduction chain f)
