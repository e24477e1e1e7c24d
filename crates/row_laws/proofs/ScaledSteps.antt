-- A factor without variables goes out of eliminations, remainders and reductions.
use Rattle.std.proofs.Common.{◌≡◌, ◌≢◌, ◌⊎◌, inl, inr, ℕ, zero, suc, ◌-◌, Bool, true, false, ◌||◌, ltb, List, [], ◌∷◌, map, refl, sym, ap, ap₂, ◌∙◌}
use Rattle.polynomials.proofs.RingLaws.{times-nil, times_left_comm}
use Rattle.polynomials.proofs.Solver.{var, ◌:-◌, ◌:*◌, solve}
use Rattle.division_rules.specs.Operations.{lead, shifted_lead}
use Rattle.division_rules.specs.Rows.{Row, cross, cross_all, elimination, is_reduced_by, sparse_remainder_by, sparse_remainder, turns, times_row, reduction}
use Rattle.division_rules.proofs.Bounds.{nil_or_not, product_not_nil, under-scale}
use Rattle.division_rules.proofs.FirstCofactors.{degree_is}
use Rattle.division_rules.proofs.Settings.{ViewedRing, operations}

module _ {A : Type 0} (P : ViewedRing A) (u : A) (some : u ≢ P.ring.nil) (free : (x : ℕ) → P.laws.Under x 1 u) where
  open P.ring use {◌⊕◌, ◌⊗◌, nil, one, neg}
  open P.views use {is_nil, degree, coefficient, variable_power, main}

  -- the factor keeps whether a polynomial is 0
  nil-scaled : (f : A) → is_nil (u ⊗ f) ≡ is_nil f
  nil-scaled f = go (is_nil (u ⊗ f)) (is_nil f) refl refl
    where
      go : (b c : Bool) → is_nil (u ⊗ f) ≡ b → is_nil f ≡ c → b ≡ c
      go true true e d = refl
      go true false e d = absurd (product_not_nil P u f some (P.laws.nonzero_by_test f d) (P.laws.nil_by_test (u ⊗ f) e))
      go false true e d = absurd (P.laws.nonzero_by_test (u ⊗ f) e (ap (λ g. u ⊗ g) (P.laws.nil_by_test f d) ∙ times-nil P.ring u))
      go false false e d = refl

  -- and degrees
  pub degree-scaled : (v : ℕ) (f : A) → degree v (u ⊗ f) ≡ degree v f
  degree-scaled v f = go (nil_or_not P f)
    where
      go : (f ≡ nil) ⊎ (f ≢ nil) → degree v (u ⊗ f) ≡ degree v f
      go (inl e) = ap (degree v) (ap (λ g. u ⊗ g) e ∙ times-nil P.ring u ∙ sym e)
      go (inr other) = degree_is P v (degree v f) (u ⊗ f) (under-scale P v (suc (degree v f)) u f (free v) (P.laws.degree-under v f)) (λ e. product_not_nil P u (coefficient v (degree v f) f) some (P.laws.degree-top v f other) (sym (P.laws.coefficient-scale v (degree v f) u f (free v)) ∙ e))

  -- it goes out of leads
  pub lead-scaled : (v : ℕ) (f : A) → lead (operations P) v (u ⊗ f) ≡ u ⊗ lead (operations P) v f
  lead-scaled v f = ap (λ d. coefficient v d (u ⊗ f)) (degree-scaled v f) ∙ P.laws.coefficient-scale v (degree v f) u f (free v)

  shifted_lead-scaled : (v : ℕ) (f g : A) → shifted_lead (operations P) v (u ⊗ f) g ≡ u ⊗ shifted_lead (operations P) v f g
  shifted_lead-scaled v f g = ap₂ (λ d a. variable_power v (d - degree v g) ⊗ a) (degree-scaled v f) (lead-scaled v f) ∙ times_left_comm P.ring (variable_power v (degree v f - degree v g)) u (lead (operations P) v f)

  -- and of l f - m g, where m has it
  cross-scaled : (l m f g : A) → cross (operations P) l (u ⊗ m) (u ⊗ f) g ≡ u ⊗ cross (operations P) l m f g
  cross-scaled l m f g = solve P.ring (u ∷ l ∷ m ∷ f ∷ g ∷ []) (var 1 :* (var 0 :* var 3) :- (var 0 :* var 2) :* var 4) (var 0 :* (var 1 :* var 3 :- var 2 :* var 4)) refl

  cross_all-scaled : (l m : A) (cs ds : List A) → cross_all (operations P) l (u ⊗ m) (map (◌⊗◌ u) cs) ds ≡ map (◌⊗◌ u) (cross_all (operations P) l m cs ds)
  cross_all-scaled l m [] ds = refl
  cross_all-scaled l m (c ∷ cs) [] = refl
  cross_all-scaled l m (c ∷ cs) (d ∷ ds) = ap₂ ◌∷◌ (cross-scaled l m c d) (cross_all-scaled l m cs ds)

  -- so it goes out of an elimination
  elimination-scaled : (v : ℕ) (f g : Row A) → elimination (operations P) v (times_row (operations P) u f) g ≡ times_row (operations P) u (elimination (operations P) v f g)
  elimination-scaled v f g = ap (λ m. record { first = cross (operations P) l m (u ⊗ f.first) g.first; cofactors = cross_all (operations P) l m (map (◌⊗◌ u) f.cofactors) g.cofactors }) (shifted_lead-scaled v f.first g.first) ∙ ap₂ (λ x xs. record { first = x; cofactors = xs }) (cross-scaled l m f.first g.first) (cross_all-scaled l m f.cofactors g.cofactors)
    where
      l : A
      l = lead (operations P) v g.first

      m : A
      m = shifted_lead (operations P) v f.first g.first

  -- and keeps whether an elimination is left
  reduced-scaled : (v : ℕ) (g f : Row A) → is_reduced_by (operations P) v g (times_row (operations P) u f) ≡ is_reduced_by (operations P) v g f
  reduced-scaled v g f = ap₂ (λ b d. b || ltb d (degree v g.first)) (nil-scaled f.first) (degree-scaled v f.first)

  -- a choice by a test that is the same
  choice-scaled : (b c : Bool) (x y s t : Row A) → b ≡ c → x ≡ times_row (operations P) u s → y ≡ times_row (operations P) u t → elim b [ true ↦ x | false ↦ y ] ≡ times_row (operations P) u (elim c [ true ↦ s | false ↦ t ])
  choice-scaled b c x y s t same first second = ap (λ a. elim a [ true ↦ x | false ↦ y ]) same ∙ go c
    where
      go : (a : Bool) → elim a [ true ↦ x | false ↦ y ] ≡ times_row (operations P) u (elim a [ true ↦ s | false ↦ t ])
      go true = first
      go false = second

  pub sparse_remainder_by-scaled : (v : ℕ) (g : Row A) (k : ℕ) (f : Row A) → sparse_remainder_by (operations P) v g k (times_row (operations P) u f) ≡ times_row (operations P) u (sparse_remainder_by (operations P) v g k f)
  sparse_remainder_by-scaled v g zero f = refl
  sparse_remainder_by-scaled v g (suc k) f = choice-scaled (is_reduced_by (operations P) v g (times_row (operations P) u f)) (is_reduced_by (operations P) v g f) (times_row (operations P) u f) (sparse_remainder_by (operations P) v g k (elimination (operations P) v (times_row (operations P) u f) g)) f (sparse_remainder_by (operations P) v g k (elimination (operations P) v f g)) (reduced-scaled v g f) refl (ap (sparse_remainder_by (operations P) v g k) (elimination-scaled v f g) ∙ sparse_remainder_by-scaled v g k (elimination (operations P) v f g))

  -- the turns are as many
  turns-scaled : (v : ℕ) (f g : A) → turns (operations P) v (u ⊗ f) g ≡ turns (operations P) v f g
  turns-scaled v f g = ap (λ d. suc (d - degree v g)) (degree-scaled v f)

  -- it goes out of a sparse remainder
  pub sparse_remainder-scaled : (v : ℕ) (f g : Row A) → sparse_remainder (operations P) v (times_row (operations P) u f) g ≡ times_row (operations P) u (sparse_remainder (operations P) v f g)
  sparse_remainder-scaled v f g = ap (λ k. sparse_remainder_by (operations P) v g k (times_row (operations P) u f)) (turns-scaled v f.first g.first) ∙ sparse_remainder_by-scaled v g (turns (operations P) v f.first g.first) f

  -- and of a reduction
  pub reduction-scaled : (chain : List (Row A)) (f : Row A) → reduction (operations P) chain (times_row (operations P) u f) ≡ times_row (operations P) u (reduction (operations P) chain f)
  reduction-scaled [] f = refl
  reduction-scaled (t ∷ chain) f = ap (λ h. sparse_remainder (operations P) (main t.first) h t) (reduction-scaled chain f) ∙ sparse_remainder-scaled (main t.first) (reduction (operations P) chain f) t
