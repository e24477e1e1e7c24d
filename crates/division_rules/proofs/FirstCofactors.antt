-- The first cofactor of l f - m g, of multiples and of quotients; degrees by coefficients.
use Rattle.std.proofs.Common.{◌≡◌, ◌≢◌, ◌⊎◌, inl, inr, ℕ, suc, ◌<◌, ◌≤◌, Bool, true, false, ◌||◌, ltb, List, [], ◌∷◌, length, map, get_or, refl, sym, ap, ◌∙◌, arith}
use Rattle.std.proofs.lemmas.Bool.{le-ltb}
use Rattle.polynomials.proofs.RingLaws.{times-nil}
use Rattle.division_rules.specs.Operations.{Operations, lead}
use Rattle.division_rules.specs.Rows.{Row, cross, cross_all, cross_rows, is_reduced_by, times_row}
use Rattle.division_rules.specs.Cofactors.{first_cofactor}
use Rattle.division_rules.proofs.Settings.{ViewedRing, operations}
use Rattle.division_rules.proofs.Bounds.{at_most_or_less, coefficient-nil, degree_below, under-cancel}

-- a row has a first cofactor
abbrev pub HasCofactor : {A : Type 0} → Row A → Type 0
HasCofactor f = 0 < length f.cofactors

module _ {A : Type 0} (o : Operations A) where
  -- the first of the entries l c - m d
  first_crossed : (l m : A) (cs ds : List A) → 0 < length cs → 0 < length ds → (0 < length (cross_all o l m cs ds)) × (get_or (cross_all o l m cs ds) 0 o.nil ≡ cross o l m (get_or cs 0 o.nil) (get_or ds 0 o.nil))
  first_crossed l m [] ds hc hd = absurd (omega (arith, hc))
  first_crossed l m (c ∷ cs) [] hc hd = absurd (omega (arith, hd))
  first_crossed l m (c ∷ cs) (d ∷ ds) hc hd = (omega arith, refl)

  -- l f - m g has a first cofactor where f and g have
  pub has-cross_rows : (l m : A) (f g : Row A) → HasCofactor f → HasCofactor g → HasCofactor (cross_rows o l m f g)
  has-cross_rows l m f g hf hg = (first_crossed l m f.cofactors g.cofactors hf hg).0

  -- namely that of the first cofactors
  pub first_cofactor-cross_rows : (l m : A) (f g : Row A) → HasCofactor f → HasCofactor g → first_cofactor o (cross_rows o l m f g) ≡ cross o l m (first_cofactor o f) (first_cofactor o g)
  first_cofactor-cross_rows l m f g hf hg = (first_crossed l m f.cofactors g.cofactors hf hg).1

  -- the first of multiples
  first_multiplied : (l : A) (cs : List A) → 0 < length cs → (0 < length (map (o.times l) cs)) × (get_or (map (o.times l) cs) 0 o.nil ≡ o.times l (get_or cs 0 o.nil))
  first_multiplied l [] h = absurd (omega (arith, h))
  first_multiplied l (c ∷ cs) h = (omega arith, refl)

  -- a multiple of a row has a first cofactor where the row has
  pub has-times_row : (l : A) (f : Row A) → HasCofactor f → HasCofactor (times_row o l f)
  has-times_row l f h = (first_multiplied l f.cofactors h).0

  -- namely the multiple
  pub first_cofactor-times_row : (l : A) (f : Row A) → HasCofactor f → first_cofactor o (times_row o l f) ≡ o.times l (first_cofactor o f)
  first_cofactor-times_row l f h = (first_multiplied l f.cofactors h).1

  -- the first of what multiplied by b makes other entries
  pub first_divided : (b : A) (qs cs : List A) → map (o.times b) qs ≡ cs → 0 < length cs → (0 < length qs) × (o.times b (get_or qs 0 o.nil) ≡ get_or cs 0 o.nil)
  first_divided b [] cs e h = absurd (empty cs e h)
    where
      empty : (ds : List A) → [] ≡ ds → 0 < length ds → ⊥
      empty [] same more = omega (arith, more)
      empty (d ∷ ds) same more = cc
  first_divided b (q ∷ qs) cs e h = (omega arith, ap (λ xs. get_or xs 0 o.nil) e)

module _ {A : Type 0} (P : ViewedRing A) where
  open P.ring use {◌⊗◌, nil}
  open P.views use {is_nil, degree, coefficient}
  open P.laws use {Under}

  -- an elimination is made where f is not 0 and has at least the degree of g
  pub not_stopped : (v : ℕ) (g f : Row A) → f.first ≢ nil → degree v g.first ≤ degree v f.first → is_reduced_by (operations P) v g f ≡ false
  not_stopped v g f some h = go (is_nil f.first) refl
    where
      go : (b : Bool) → is_nil f.first ≡ b → (b || ltb (degree v f.first) (degree v g.first)) ≡ false
      go true e = absurd (some (P.laws.nil_by_test f.first e))
      go false e = le-ltb (degree v f.first) (degree v g.first) h

  -- the degree is k where the coefficient at k is the last that isn't 0
  pub degree_is : (v k : ℕ) (f : A) → Under v (suc k) f → coefficient v k f ≢ nil → degree v f ≡ k
  degree_is v k f under top = go (at_most_or_less k (degree v f))
    where
      some : f ≢ nil
      some e = top (ap (coefficient v k) e ∙ coefficient-nil P v k)

      below : degree v f < suc k
      below = degree_below P v (suc k) f under some

      go : (k ≤ degree v f) ⊎ (degree v f < k) → degree v f ≡ k
      go (inl h) = omega (arith, below, h)
      go (inr h) = absurd (top (P.laws.coefficient-above v (suc (degree v f)) k f h (P.laws.degree-under v f)))

  -- a factor u without v other than 0 keeps the degree, and multiplies the lead
  pub degree-factor : (v k : ℕ) (u a x : A) → u ≢ nil → Under v 1 u → Under v (suc k) (u ⊗ a) → coefficient v k (u ⊗ a) ≡ x → x ≢ nil → (degree v a ≡ k) × (u ⊗ lead (operations P) v a ≡ x) × (a ≢ nil)
  degree-factor v k u a x u_some free under top x_some = (same, ap (λ d. u ⊗ coefficient v d a) same ∙ product_is, λ e. part_some (ap (coefficient v k) e ∙ coefficient-nil P v k))
    where
      product_is : u ⊗ coefficient v k a ≡ x
      product_is = sym (P.laws.coefficient-scale v k u a free) ∙ top

      part_some : coefficient v k a ≢ nil
      part_some e = x_some (sym product_is ∙ ap (λ w. u ⊗ w) e ∙ times-nil P.ring u)

      same : degree v a ≡ k
      same = degree_is v k a (under-cancel P v (suc k) u a u_some free under) part_some
