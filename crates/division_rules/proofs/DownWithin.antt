-- The same steps within a width: those on canonical polynomials are those on the lists of terms.
use Rattle.std.proofs.Common.{◌≡◌, ℕ, zero, suc, ◌<◌, true, false, List, [], ◌∷◌, Option, Some, None, option_map, refl, ap, ap₂, ◌∙◌}
use Rattle.polynomials.specs.Polynomials.{Polynomial, sum_of, product_of, negative_of}
use Rattle.polynomials.specs.Fits.{fits}
use Rattle.polynomials.proofs.PolynomialRing.{CanonicalPolynomial}
use Rattle.division_rules.specs.Operations.{lead, shifted_lead}
use Rattle.division_rules.specs.Lists.{list_operations}
use Rattle.division_rules.specs.Rows.{Row, is_reduced_by, turns}
use Rattle.division_rules.specs.Within.{and_then, times_within, cross_within, cross_all_within, row_within, elimination_within, sparse_remainder_by_within, sparse_remainder_within, times_all_within, times_row_within, pseudo_remainder_by_within, pseudo_remainder_within, reduction_within, power_of_within}
use Rattle.division_rules.proofs.CanonicalViews.{canonical_operations}
use Rattle.division_rules.proofs.Down.{choice-into, terms, terms_all, down, down_all}

-- a function goes into two steps
pub and_then-into : {A B C D : Type 0} (h : A → B) (k : C → D) (x : Option A) (f : A → Option C) (g : B → Option D) → ((z : A) → option_map k (f z) ≡ g (h z)) → option_map k (and_then x f) ≡ and_then (option_map h x) g
and_then-into h k None f g each = refl
and_then-into h k (Some z) f g each = each z

module _ (p n : ℕ) (many : 1 < p) (w : ℕ) where
  -- products
  pub terms-times_within : (a b : CanonicalPolynomial p n) → option_map (terms p n many) (times_within (canonical_operations p n many) w a b) ≡ times_within (list_operations p n) w a.0 b.0
  terms-times_within a b = choice-into (option_map (terms p n many)) (fits w a.0 b.0) (fits w a.0 b.0) (Some ((canonical_operations p n many).times a b)) None (Some (product_of p a.0 b.0)) None refl refl refl

  -- l f - m g
  pub terms-cross_within : (x y f g : CanonicalPolynomial p n) → option_map (terms p n many) (cross_within (canonical_operations p n many) w x y f g) ≡ cross_within (list_operations p n) w x.0 y.0 f.0 g.0
  terms-cross_within x y f g = and_then-into (terms p n many) (terms p n many) (times_within (canonical_operations p n many) w x f) (λ a. and_then (times_within (canonical_operations p n many) w y g) (λ b. Some ((canonical_operations p n many).plus a ((canonical_operations p n many).minus b)))) (λ a. and_then (times_within (list_operations p n) w y.0 g.0) (λ b. Some (sum_of p a (negative_of p b)))) (λ a. and_then-into (terms p n many) (terms p n many) (times_within (canonical_operations p n many) w y g) (λ b. Some ((canonical_operations p n many).plus a ((canonical_operations p n many).minus b))) (λ b. Some (sum_of p a.0 (negative_of p b))) (λ b. refl) ∙ ap (λ z. and_then z (λ b. Some (sum_of p a.0 (negative_of p b)))) (terms-times_within y g)) ∙ ap (λ z. and_then z (λ a. and_then (times_within (list_operations p n) w y.0 g.0) (λ b. Some (sum_of p a (negative_of p b))))) (terms-times_within x f)

  -- one more in front of a list
  in_front : (x : Option (CanonicalPolynomial p n)) (xs : Option (List (CanonicalPolynomial p n))) (b : Option Polynomial) (bs : Option (List Polynomial)) → option_map (terms p n many) x ≡ b → option_map (terms_all p n many) xs ≡ bs → option_map (terms_all p n many) (and_then x (λ z. and_then xs (λ zs. Some (z ∷ zs)))) ≡ and_then b (λ z. and_then bs (λ zs. Some (z ∷ zs)))
  in_front None xs b bs e d = ap (λ y. and_then y (λ z. and_then bs (λ zs. Some (z ∷ zs)))) e
  in_front (Some z) None b bs e d = ap₂ (λ y ys. and_then y (λ z. and_then ys (λ zs. Some (z ∷ zs)))) e d
  in_front (Some z) (Some zs) b bs e d = ap₂ (λ y ys. and_then y (λ z. and_then ys (λ zs. Some (z ∷ zs)))) e d

  -- a row from its parts
  whole_row : (x : Option (CanonicalPolynomial p n)) (xs : Option (List (CanonicalPolynomial p n))) (b : Option Polynomial) (bs : Option (List Polynomial)) → option_map (terms p n many) x ≡ b → option_map (terms_all p n many) xs ≡ bs → option_map (down p n many) (row_within (canonical_operations p n many) w x xs) ≡ row_within (list_operations p n) w b bs
  whole_row None xs b bs e d = ap (λ y. row_within (list_operations p n) w y bs) e
  whole_row (Some z) None b bs e d = ap₂ (row_within (list_operations p n) w) e d
  whole_row (Some z) (Some zs) b bs e d = ap₂ (row_within (list_operations p n) w) e d

  terms-cross_all_within : (x y : CanonicalPolynomial p n) (cs ds : List (CanonicalPolynomial p n)) → option_map (terms_all p n many) (cross_all_within (canonical_operations p n many) w x y cs ds) ≡ cross_all_within (list_operations p n) w x.0 y.0 (terms_all p n many cs) (terms_all p n many ds)
  terms-cross_all_within x y [] ds = refl
  terms-cross_all_within x y (c ∷ cs) [] = refl
  terms-cross_all_within x y (c ∷ cs) (d ∷ ds) = in_front (cross_within (canonical_operations p n many) w x y c d) (cross_all_within (canonical_operations p n many) w x y cs ds) (cross_within (list_operations p n) w x.0 y.0 c.0 d.0) (cross_all_within (list_operations p n) w x.0 y.0 (terms_all p n many cs) (terms_all p n many ds)) (terms-cross_within x y c d) (terms-cross_all_within x y cs ds)

  -- an elimination
  pub down-elimination_within : (v : ℕ) (f g : Row (CanonicalPolynomial p n)) → option_map (down p n many) (elimination_within (canonical_operations p n many) w v f g) ≡ elimination_within (list_operations p n) w v (down p n many f) (down p n many g)
  down-elimination_within v f g = whole_row (cross_within (canonical_operations p n many) w x y f.first g.first) (cross_all_within (canonical_operations p n many) w x y f.cofactors g.cofactors) (cross_within (list_operations p n) w x.0 y.0 f.first.0 g.first.0) (cross_all_within (list_operations p n) w x.0 y.0 (terms_all p n many f.cofactors) (terms_all p n many g.cofactors)) (terms-cross_within x y f.first g.first) (terms-cross_all_within x y f.cofactors g.cofactors)
    where
      x : CanonicalPolynomial p n
      x = lead (canonical_operations p n many) v g.first

      y : CanonicalPolynomial p n
      y = shifted_lead (canonical_operations p n many) v f.first g.first

  -- the sparse remainder
  pub down-sparse_remainder_by_within : (v : ℕ) (g : Row (CanonicalPolynomial p n)) (k : ℕ) (f : Row (CanonicalPolynomial p n)) → option_map (down p n many) (sparse_remainder_by_within (canonical_operations p n many) w v g k f) ≡ sparse_remainder_by_within (list_operations p n) w v (down p n many g) k (down p n many f)
  down-sparse_remainder_by_within v g zero f = refl
  down-sparse_remainder_by_within v g (suc k) f = choice-into (option_map (down p n many)) (is_reduced_by (canonical_operations p n many) v g f) (is_reduced_by (list_operations p n) v (down p n many g) (down p n many f)) (Some f) (and_then (elimination_within (canonical_operations p n many) w v f g) (λ h. sparse_remainder_by_within (canonical_operations p n many) w v g k h)) (Some (down p n many f)) (and_then (elimination_within (list_operations p n) w v (down p n many f) (down p n many g)) (λ h. sparse_remainder_by_within (list_operations p n) w v (down p n many g) k h)) refl refl (and_then-into (down p n many) (down p n many) (elimination_within (canonical_operations p n many) w v f g) (λ h. sparse_remainder_by_within (canonical_operations p n many) w v g k h) (λ h. sparse_remainder_by_within (list_operations p n) w v (down p n many g) k h) (λ h. down-sparse_remainder_by_within v g k h) ∙ ap (λ z. and_then z (λ h. sparse_remainder_by_within (list_operations p n) w v (down p n many g) k h)) (down-elimination_within v f g))

  -- with the turns of the definition
  pub down-sparse_remainder_within : (v : ℕ) (f g : Row (CanonicalPolynomial p n)) → option_map (down p n many) (sparse_remainder_within (canonical_operations p n many) w v f g) ≡ sparse_remainder_within (list_operations p n) w v (down p n many f) (down p n many g)
  down-sparse_remainder_within v f g = down-sparse_remainder_by_within v g (turns (canonical_operations p n many) v f.first g.first) f

  terms-times_all_within : (x : CanonicalPolynomial p n) (cs : List (CanonicalPolynomial p n)) → option_map (terms_all p n many) (times_all_within (canonical_operations p n many) w x cs) ≡ times_all_within (list_operations p n) w x.0 (terms_all p n many cs)
  terms-times_all_within x [] = refl
  terms-times_all_within x (c ∷ cs) = in_front (times_within (canonical_operations p n many) w x c) (times_all_within (canonical_operations p n many) w x cs) (times_within (list_operations p n) w x.0 c.0) (times_all_within (list_operations p n) w x.0 (terms_all p n many cs)) (terms-times_within x c) (terms-times_all_within x cs)

  -- a row times a polynomial
  pub down-times_row_within : (x : CanonicalPolynomial p n) (f : Row (CanonicalPolynomial p n)) → option_map (down p n many) (times_row_within (canonical_operations p n many) w x f) ≡ times_row_within (list_operations p n) w x.0 (down p n many f)
  down-times_row_within x f = whole_row (times_within (canonical_operations p n many) w x f.first) (times_all_within (canonical_operations p n many) w x f.cofactors) (times_within (list_operations p n) w x.0 f.first.0) (times_all_within (list_operations p n) w x.0 (terms_all p n many f.cofactors)) (terms-times_within x f.first) (terms-times_all_within x f.cofactors)

  -- the pseudo-remainder
  pub down-pseudo_remainder_by_within : (v : ℕ) (g : Row (CanonicalPolynomial p n)) (k : ℕ) (f : Row (CanonicalPolynomial p n)) → option_map (down p n many) (pseudo_remainder_by_within (canonical_operations p n many) w v g k f) ≡ pseudo_remainder_by_within (list_operations p n) w v (down p n many g) k (down p n many f)
  down-pseudo_remainder_by_within v g zero f = refl
  down-pseudo_remainder_by_within v g (suc k) f = and_then-into (down p n many) (down p n many) (elim (is_reduced_by (canonical_operations p n many) v g f) as (λ _. Option (Row (CanonicalPolynomial p n))) [ true ↦ times_row_within (canonical_operations p n many) w (lead (canonical_operations p n many) v g.first) f | false ↦ elimination_within (canonical_operations p n many) w v f g ]) (λ h. pseudo_remainder_by_within (canonical_operations p n many) w v g k h) (λ h. pseudo_remainder_by_within (list_operations p n) w v (down p n many g) k h) (λ h. down-pseudo_remainder_by_within v g k h) ∙ ap (λ z. and_then z (λ h. pseudo_remainder_by_within (list_operations p n) w v (down p n many g) k h)) (choice-into (option_map (down p n many)) (is_reduced_by (canonical_operations p n many) v g f) (is_reduced_by (list_operations p n) v (down p n many g) (down p n many f)) (times_row_within (canonical_operations p n many) w (lead (canonical_operations p n many) v g.first) f) (elimination_within (canonical_operations p n many) w v f g) (times_row_within (list_operations p n) w (lead (list_operations p n) v g.first.0) (down p n many f)) (elimination_within (list_operations p n) w v (down p n many f) (down p n many g)) refl (down-times_row_within (lead (canonical_operations p n many) v g.first) f) (down-elimination_within v f g))

  -- with the turns of the definition
  pub down-pseudo_remainder_within : (v : ℕ) (f g : Row (CanonicalPolynomial p n)) → option_map (down p n many) (pseudo_remainder_within (canonical_operations p n many) w v f g) ≡ pseudo_remainder_within (list_operations p n) w v (down p n many f) (down p n many g)
  down-pseudo_remainder_within v f g = down-pseudo_remainder_by_within v g (turns (canonical_operations p n many) v f.first g.first) f

  -- the reduction by a chain
  pub down-reduction_within : (chain : List (Row (CanonicalPolynomial p n))) (f : Row (CanonicalPolynomial p n)) → option_map (down p n many) (reduction_within (canonical_operations p n many) w chain f) ≡ reduction_within (list_operations p n) w (down_all p n many chain) (down p n many f)
  down-reduction_within [] f = refl
  down-reduction_within (t ∷ chain) f = and_then-into (down p n many) (down p n many) (reduction_within (canonical_operations p n many) w chain f) (λ g. sparse_remainder_within (canonical_operations p n many) w ((canonical_operations p n many).views.main t.first) g t) (λ g. sparse_remainder_within (list_operations p n) w ((list_operations p n).views.main t.first.0) g (down p n many t)) (λ g. down-sparse_remainder_within ((canonical_operations p n many).views.main t.first) g t) ∙ ap (λ z. and_then z (λ g. sparse_remainder_within (list_operations p n) w ((list_operations p n).views.main t.first.0) g (down p n many t))) (down-reduction_within chain f)

  -- powers
  pub terms-power_of_within : (a : CanonicalPolynomial p n) (e : ℕ) → option_map (terms p n many) (power_of_within (canonical_operations p n many) w a e) ≡ power_of_within (list_operations p n) w a.0 e
  terms-power_of_within a zero = refl
  terms-power_of_within a (suc zero) = refl
  terms-power_of_within a (suc (suc e)) = and_then-into (terms p n many) (terms p n many) (power_of_within (canonical_operations p n many) w a (suc e)) (λ x. times_within (canonical_operations p n many) w x a) (λ x. times_within (list_operations p n) w x a.0) (λ x. terms-times_within x a) ∙ ap (λ z. and_then z (λ x. times_within (list_operations p n) w x a.0)) (terms-power_of_within a (suc e))
