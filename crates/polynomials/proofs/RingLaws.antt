-- What follows from the laws of a commutative ring.
use Rattle.std.proofs.Common.{◌≡◌, ◌≢◌, ℕ, zero, suc, ◌+◌, sym, ap, ap₂, ◌∙◌, inl, inr, arith}
use Rattle.polynomials.specs.Rings.{Ring, IsIntegral, power_in}

module _ {A : Type 0} (r : Ring A) where
  open r use {◌⊕◌, ◌⊗◌, nil, one, neg}

  -- the laws, one lemma each
  pub plus_comm : (x y : A) → x ⊕ y ≡ y ⊕ x
  plus_comm = r.add_comm

  pub plus_assoc : (x y z : A) → (x ⊕ y) ⊕ z ≡ x ⊕ (y ⊕ z)
  plus_assoc = r.add_assoc

  pub nil-plus : (x : A) → nil ⊕ x ≡ x
  nil-plus = r.nil-add

  pub neg-plus : (x : A) → neg x ⊕ x ≡ nil
  neg-plus = r.neg-add

  pub times_comm : (x y : A) → x ⊗ y ≡ y ⊗ x
  times_comm = r.mul_comm

  pub times_assoc : (x y z : A) → (x ⊗ y) ⊗ z ≡ x ⊗ (y ⊗ z)
  times_assoc = r.mul_assoc

  pub one-times : (x : A) → one ⊗ x ≡ x
  one-times = r.one-mul

  pub times-plus : (x y z : A) → x ⊗ (y ⊕ z) ≡ (x ⊗ y) ⊕ (x ⊗ z)
  times-plus = r.mul-add

  -- the laws with the sides changed
  pub plus-nil : (x : A) → x ⊕ nil ≡ x
  plus-nil x = plus_comm x nil ∙ nil-plus x

  pub plus-neg : (x : A) → x ⊕ neg x ≡ nil
  plus-neg x = plus_comm x (neg x) ∙ neg-plus x

  pub times-one : (x : A) → x ⊗ one ≡ x
  times-one x = times_comm x one ∙ one-times x

  pub plus-times : (x y z : A) → (x ⊕ y) ⊗ z ≡ (x ⊗ z) ⊕ (y ⊗ z)
  plus-times x y z = times_comm (x ⊕ y) z ∙ times-plus z x y ∙ ap₂ ◌⊕◌ (times_comm z x) (times_comm z y)

  pub plus_left_comm : (x y z : A) → x ⊕ (y ⊕ z) ≡ y ⊕ (x ⊕ z)
  plus_left_comm x y z = sym (plus_assoc x y z) ∙ ap (λ w. w ⊕ z) (plus_comm x y) ∙ plus_assoc y x z

  pub times_left_comm : (x y z : A) → x ⊗ (y ⊗ z) ≡ y ⊗ (x ⊗ z)
  times_left_comm x y z = sym (times_assoc x y z) ∙ ap (λ w. w ⊗ z) (times_comm x y) ∙ times_assoc y x z

  -- the middle two of four change places
  pub plus_four : (a b c d : A) → (a ⊕ b) ⊕ (c ⊕ d) ≡ (a ⊕ c) ⊕ (b ⊕ d)
  plus_four a b c d = plus_assoc a b (c ⊕ d) ∙ ap (λ w. a ⊕ w) (plus_left_comm b c d) ∙ sym (plus_assoc a c (b ⊕ d))

  pub times_four : (a b c d : A) → (a ⊗ b) ⊗ (c ⊗ d) ≡ (a ⊗ c) ⊗ (b ⊗ d)
  times_four a b c d = times_assoc a b (c ⊗ d) ∙ ap (λ w. a ⊗ w) (times_left_comm b c d) ∙ sym (times_assoc a c (b ⊗ d))

  -- x and its negative cancel
  pub neg-plus-plus : (x y : A) → neg x ⊕ (x ⊕ y) ≡ y
  neg-plus-plus x y = sym (plus_assoc (neg x) x y) ∙ ap (λ w. w ⊕ y) (neg-plus x) ∙ nil-plus y

  -- in the other order
  pub plus-neg-plus : (x y : A) → x ⊕ (neg x ⊕ y) ≡ y
  plus-neg-plus x y = sym (plus_assoc x (neg x) y) ∙ ap (λ w. w ⊕ y) (plus-neg x) ∙ nil-plus y

  -- a summand cancels
  pub plus_cancel_left : (x y z : A) → x ⊕ y ≡ x ⊕ z → y ≡ z
  plus_cancel_left x y z h = sym (neg-plus-plus x y) ∙ ap (λ w. neg x ⊕ w) h ∙ neg-plus-plus x z

  -- on either side
  pub plus_cancel_right : (x y z : A) → y ⊕ x ≡ z ⊕ x → y ≡ z
  plus_cancel_right x y z h = plus_cancel_left x y z (plus_comm x y ∙ h ∙ plus_comm z x)

  -- x added to y without change is 0
  pub nil_from_plus : (x y : A) → x ⊕ y ≡ y → x ≡ nil
  nil_from_plus x y h = plus_cancel_right y x nil (h ∙ sym (nil-plus y))

  -- a negative is known by its sum
  pub neg_from_plus : (x y : A) → x ⊕ y ≡ nil → x ≡ neg y
  neg_from_plus x y h = plus_cancel_right y x (neg y) (h ∙ sym (neg-plus y))

  -- negatives of 0, of negatives and of sums
  pub neg-nil : neg nil ≡ nil
  neg-nil = sym (neg_from_plus nil nil (nil-plus nil))

  pub neg-neg : (x : A) → neg (neg x) ≡ x
  neg-neg x = sym (neg_from_plus x (neg x) (plus-neg x))

  pub neg-sum : (x y : A) → neg (x ⊕ y) ≡ neg x ⊕ neg y
  neg-sum x y = sym (neg_from_plus (neg x ⊕ neg y) (x ⊕ y) (plus_four (neg x) (neg y) x y ∙ ap₂ ◌⊕◌ (neg-plus x) (neg-plus y) ∙ nil-plus nil))

  -- 0 times anything is 0
  pub times-nil : (x : A) → x ⊗ nil ≡ nil
  times-nil x = nil_from_plus (x ⊗ nil) (x ⊗ nil) (sym (times-plus x nil nil) ∙ ap (λ w. x ⊗ w) (nil-plus nil))

  pub nil-times : (x : A) → nil ⊗ x ≡ nil
  nil-times x = times_comm nil x ∙ times-nil x

  -- a sign moves out of a product
  pub neg-times : (x y : A) → neg x ⊗ y ≡ neg (x ⊗ y)
  neg-times x y = neg_from_plus (neg x ⊗ y) (x ⊗ y) (sym (plus-times (neg x) x y) ∙ ap (λ w. w ⊗ y) (neg-plus x) ∙ nil-times y)

  pub times-neg : (x y : A) → x ⊗ neg y ≡ neg (x ⊗ y)
  times-neg x y = times_comm x (neg y) ∙ neg-times y x ∙ ap neg (times_comm y x)

  -- what differs by 0 is the same
  pub same_from_difference : (x y : A) → x ⊕ neg y ≡ nil → x ≡ y
  same_from_difference x y h = neg_from_plus x (neg y) h ∙ neg-neg y

  -- the rules of powers
  pub power_in-add : (x : A) (d e : ℕ) → power_in r x (d + e) ≡ power_in r x d ⊗ power_in r x e
  power_in-add x zero e = ap (power_in r x) (omega arith) ∙ sym (one-times (power_in r x e))
  power_in-add x (suc d) e = ap (power_in r x) one_more ∙ ap (λ w. x ⊗ w) (power_in-add x d e) ∙ sym (times_assoc x (power_in r x d) (power_in r x e))
    where
      one_more : suc d + e ≡ suc (d + e)
      one_more = omega arith

module _ {A : Type 0} (r : Ring A) (integral : IsIntegral r) where
  open r use {◌⊕◌, ◌⊗◌, nil, one, neg}

  -- where products are 0 only by a factor: factors other than 0 have a product other than 0
  pub product_nonzero : (x y : A) → x ≢ nil → y ≢ nil → x ⊗ y ≢ nil
  product_nonzero x y hx hy h = elim (integral x y h) [ inl e ↦ hx e | inr e ↦ hy e ]

  -- a power is 0 only where its base is
  pub power_nonzero : one ≢ nil → (x : A) (e : ℕ) → x ≢ nil → power_in r x e ≢ nil
  power_nonzero h x zero hx = h
  power_nonzero h x (suc e) hx = product_nonzero x (power_in r x e) hx (power_nonzero h x e hx)

  -- a factor other than 0 cancels
  pub times_cancel_left : (x y z : A) → x ≢ nil → x ⊗ y ≡ x ⊗ z → y ≡ z
  times_cancel_left x y z hx h = elim (integral x (y ⊕ neg z) (times-plus r x y (neg z) ∙ ap₂ ◌⊕◌ h (times-neg r x z) ∙ plus-neg r (x ⊗ z))) [
    | inl e ↦ absurd (hx e)
    | inr e ↦ same_from_difference r y z e
  ]

-- sums and products in one order: `simp ring`
pub ruleset ring = (plus_comm, plus_assoc, plus_left_comm, nil-plus, plus-nil, times_comm, times_assoc, times_left_comm, one-times, times-one, times-plus, plus-times, nil-times, times-nil)

-- the same with negatives
pub ruleset ring_neg = (ring, neg-plus, plus-neg, neg-plus-plus, plus-neg-plus, neg-nil, neg-neg, neg-sum, neg-times, times-neg)
