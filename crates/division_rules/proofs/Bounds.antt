-- Degrees and coefficients in a variable: what follows from the laws of views.
use Rattle.std.proofs.Common.{◌≡◌, ◌≢◌, ◌⊎◌, inl, inr, ℕ, zero, suc, ◌+◌, ◌-◌, ◌<◌, ◌≤◌, Bool, true, false, refl, sym, ap, ap₂, subst, ◌∙◌, arith}
use Rattle.polynomials.proofs.RingLaws.{plus-neg, neg_from_plus, neg-nil, neg-neg, neg-plus, times-nil, times-one, times_comm, product_nonzero}
use Rattle.division_rules.proofs.Settings.{ViewedRing, operations}
use Rattle.division_rules.specs.Operations.{lead, shifted_lead}
use Rattle.division_rules.specs.Rows.{cross}

-- of two numbers one is at most the other
pub at_most_or_less : (d e : ℕ) → (d ≤ e) ⊎ (e < d)
at_most_or_less d e = grind arith

module _ {A : Type 0} (P : ViewedRing A) where
  open P.ring use {◌⊕◌, ◌⊗◌, nil, one, neg}
  open P.views use {is_nil, degree, coefficient, variable_power}
  open P.laws use {Under}

  -- a polynomial is 0 or not, by its test
  pub nil_or_not : (f : A) → (f ≡ nil) ⊎ (f ≢ nil)
  nil_or_not f = go (is_nil f) refl
    where
      go : (b : Bool) → is_nil f ≡ b → (f ≡ nil) ⊎ (f ≢ nil)
      go true e = inl (P.laws.nil_by_test f e)
      go false e = inr (P.laws.nonzero_by_test f e)

  -- a product of polynomials other than 0 is not 0
  pub product_not_nil : (f g : A) → f ≢ nil → g ≢ nil → f ⊗ g ≢ nil
  product_not_nil = product_nonzero P.ring P.laws.integral

  -- nor is the negative of one
  pub negative_not_nil : (f : A) → f ≢ nil → neg f ≢ nil
  negative_not_nil f h e = h (sym (neg-neg P.ring f) ∙ ap neg e ∙ neg-nil P.ring)

  -- the coefficients of 0 and of negatives
  pub coefficient-nil : (v k : ℕ) → coefficient v k nil ≡ nil
  coefficient-nil v k = P.laws.coefficient-above v 0 k nil (omega arith) (P.laws.under-nil v 0)

  -- a coefficient of a negative is the negative
  pub coefficient-neg : (v k : ℕ) (f : A) → coefficient v k (neg f) ≡ neg (coefficient v k f)
  coefficient-neg v k f = neg_from_plus P.ring (coefficient v k (neg f)) (coefficient v k f) (sym (P.laws.coefficient-add v k (neg f) f) ∙ ap (coefficient v k) (neg-plus P.ring f) ∙ coefficient-nil v k)

  -- 0 is under each bound
  pub under-nil_at : (v d : ℕ) (f : A) → f ≡ nil → Under v d f
  under-nil_at v d f e = subst (Under v d) (sym e) (P.laws.under-nil v d)

  -- what is under a bound has a lesser degree, unless it is 0
  pub degree_below : (v d : ℕ) (f : A) → Under v d f → f ≢ nil → degree v f < d
  degree_below v d f u some = go (at_most_or_less d (degree v f))
    where
      go : (d ≤ degree v f) ⊎ (degree v f < d) → degree v f < d
      go (inl h) = absurd (P.laws.degree-top v f some (P.laws.coefficient-above v d (degree v f) f h u))
      go (inr h) = h

  -- and what has a lesser degree is under the bound
  pub under_degree : (v d : ℕ) (f : A) → degree v f < d → Under v d f
  under_degree v d f h = P.laws.under-more v (suc (degree v f)) d f h (P.laws.degree-under v f)

  -- a factor without v keeps bounds
  pub under-scale : (v d : ℕ) (u f : A) → Under v 1 u → Under v d f → Under v d (u ⊗ f)
  under-scale v zero u f free h = under-nil_at v 0 (u ⊗ f) (ap (λ w. u ⊗ w) (P.laws.under-none v f h) ∙ times-nil P.ring u)
  under-scale v (suc d) u f free h = P.laws.under-more v (suc (0 + d)) (suc d) (u ⊗ f) (omega arith) (P.laws.under-mul v 0 d u f free h)

  -- l f - m g is under a bound of both products
  pub under-cross : (v d : ℕ) (l m f g : A) → Under v d (l ⊗ f) → Under v d (m ⊗ g) → Under v d (cross (operations P) l m f g)
  under-cross v d l m f g hf hg = P.laws.under-add v d (l ⊗ f) (neg (m ⊗ g)) hf (P.laws.under-neg v d (m ⊗ g) hg)

  -- its coefficients are the differences of those of the products
  pub coefficient-cross : (v k : ℕ) (l m f g : A) → coefficient v k (cross (operations P) l m f g) ≡ coefficient v k (l ⊗ f) ⊕ neg (coefficient v k (m ⊗ g))
  coefficient-cross v k l m f g = P.laws.coefficient-add v k (l ⊗ f) (neg (m ⊗ g)) ∙ ap (λ w. coefficient v k (l ⊗ f) ⊕ w) (coefficient-neg v k (m ⊗ g))

  -- a factor without v that isn't 0 can be left out under a bound
  pub under-cancel : (v d : ℕ) (u f : A) → u ≢ nil → Under v 1 u → Under v d (u ⊗ f) → Under v d f
  under-cancel v d u f u_some free h = go (nil_or_not f) (at_most_or_less d (degree v f))
    where
      go : (f ≡ nil) ⊎ (f ≢ nil) → (d ≤ degree v f) ⊎ (degree v f < d) → Under v d f
      go (inl e) c = under-nil_at v d f e
      go (inr some) (inl c) = absurd (product_not_nil u (coefficient v (degree v f) f) u_some (P.laws.degree-top v f some) (sym (P.laws.coefficient-scale v (degree v f) u f free) ∙ P.laws.coefficient-above v d (degree v f) (u ⊗ f) c h))
      go (inr some) (inr c) = under_degree v d f c

  -- a factor is under the bounds of the product
  pub under-factor : (x d : ℕ) (q b : A) → b ≢ nil → Under x d (q ⊗ b) → Under x d q
  under-factor x d q b b_some h = go (nil_or_not q) (at_most_or_less d (degree x q))
    where
      go : (q ≡ nil) ⊎ (q ≢ nil) → (d ≤ degree x q) ⊎ (degree x q < d) → Under x d q
      go (inl e) c = under-nil_at x d q e
      go (inr some) (inl c) = absurd (product_not_nil (coefficient x (degree x q) q) (coefficient x (degree x b) b) (P.laws.degree-top x q some) (P.laws.degree-top x b b_some) (sym (P.laws.coefficient-mul x (degree x q) (degree x b) q b (P.laws.degree-under x q) (P.laws.degree-under x b)) ∙ P.laws.coefficient-above x d (degree x q + degree x b) (q ⊗ b) (omega arith) h))
      go (inr some) (inr c) = under_degree x d q c

  -- a power of v times what has no v
  pub under-shift : (v k : ℕ) (c : A) → Under v 1 c → Under v (suc k) (variable_power v k ⊗ c)
  under-shift v k c free = P.laws.under-more v (suc (k + 0)) (suc k) (variable_power v k ⊗ c) (omega arith) (P.laws.under-mul v k 0 (variable_power v k) c (P.laws.power-under v k) free)

  -- its coefficient at that power is the factor, where the power is at most the degree of some f
  pub coefficient-shift : (v k : ℕ) (c f : A) → Under v 1 c → k ≤ degree v f → coefficient v k (variable_power v k ⊗ c) ≡ c
  coefficient-shift v k c f free h = ap (coefficient v k) (times_comm P.ring (variable_power v k) c) ∙ P.laws.coefficient-scale v k c (variable_power v k) free ∙ ap (λ w. c ⊗ w) (P.laws.power-coefficient v k f h) ∙ times-one P.ring c

  -- and it keeps bounds in other variables
  pub under-shift_other : (x v k d : ℕ) (c : A) → x ≢ v → Under x d c → Under x d (variable_power v k ⊗ c)
  under-shift_other x v k d c other h = under-scale x d (variable_power v k) c (P.laws.power-other x v k other) h

  -- an elimination lowers the degree: the two multiples have the same lead
  pub eliminated-under : (v : ℕ) (f g : A) → degree v g ≤ degree v f → Under v (degree v f) (cross (operations P) (lead (operations P) v g) (shifted_lead (operations P) v f g) f g)
  eliminated-under v f g h = P.laws.coefficient-top v (degree v f) (cross (operations P) l m f g) (under-cross v (suc (degree v f)) l m f g first second) (coefficient-cross v (degree v f) l m f g ∙ ap₂ (λ x y. x ⊕ neg y) first_lead second_lead ∙ plus-neg P.ring (l ⊗ t))
    where
      l : A
      l = lead (operations P) v g

      t : A
      t = lead (operations P) v f

      m : A
      m = shifted_lead (operations P) v f g

      k : ℕ
      k = degree v f - degree v g

      sum : k + degree v g ≡ degree v f
      sum = omega arith

      shift : Under v (suc k) m
      shift = under-shift v k t (P.laws.coefficient-free v (degree v f) f)

      first : Under v (suc (degree v f)) (l ⊗ f)
      first = under-scale v (suc (degree v f)) l f (P.laws.coefficient-free v (degree v g) g) (P.laws.degree-under v f)

      second : Under v (suc (degree v f)) (m ⊗ g)
      second = subst (λ d. Under v (suc d) (m ⊗ g)) sum (P.laws.under-mul v k (degree v g) m g shift (P.laws.degree-under v g))

      first_lead : coefficient v (degree v f) (l ⊗ f) ≡ l ⊗ t
      first_lead = P.laws.coefficient-scale v (degree v f) l f (P.laws.coefficient-free v (degree v g) g)

      second_lead : coefficient v (degree v f) (m ⊗ g) ≡ l ⊗ t
      second_lead = ap (λ d. coefficient v d (m ⊗ g)) (sym sum) ∙ P.laws.coefficient-mul v k (degree v g) m g shift (P.laws.degree-under v g) ∙ ap (λ w. w ⊗ l) (coefficient-shift v k t f (P.laws.coefficient-free v (degree v f) f) (omega arith)) ∙ times_comm P.ring t l
