-- The numbers as sums of ones in a ring.
use Rattle.std.proofs.Common.{◌≡◌, ◌≢◌, ℕ, zero, suc, ◌+◌, ◌-◌, ◌*◌, ◌/◌, ◌%◌, ◌≤◌, sym, ap, ap₂, ◌∙◌, zero-mul, arith}
use native.Mathlib.Nat.{div-add-mod}
use Rattle.polynomials.specs.Rings.{Ring, natural_in, HasCharacteristic}
use Rattle.polynomials.proofs.RingLaws.{plus_assoc, nil-plus, plus-nil, one-times, nil-times, plus-times, neg_from_plus}

module _ {A : Type 0} (r : Ring A) where
  open r use {◌⊕◌, ◌⊗◌, nil, one, neg}

  -- the number of a sum is the sum of the numbers
  pub natural_in-add : (m n : ℕ) → natural_in r (m + n) ≡ natural_in r m ⊕ natural_in r n
  natural_in-add zero n = ap (natural_in r) (omega arith) ∙ sym (nil-plus r (natural_in r n))
  natural_in-add (suc m) n = ap (natural_in r) one_more ∙ ap (λ w. one ⊕ w) (natural_in-add m n) ∙ sym (plus_assoc r one (natural_in r m) (natural_in r n))
    where
      one_more : suc m + n ≡ suc (m + n)
      one_more = omega arith

  -- and of a product the product
  pub natural_in-mul : (m n : ℕ) → natural_in r (m * n) ≡ natural_in r m ⊗ natural_in r n
  natural_in-mul zero n = ap (natural_in r) (zero-mul n) ∙ sym (nil-times r (natural_in r n))
  natural_in-mul (suc m) n = ap (natural_in r) one_more ∙ natural_in-add n (m * n) ∙ ap₂ ◌⊕◌ (sym (one-times r (natural_in r n))) (natural_in-mul m n) ∙ sym (plus-times r one (natural_in r m) (natural_in r n))
    where
      one_more : suc m * n ≡ n + m * n
      one_more = omega arith

  -- 1 is one
  pub natural_in-one : natural_in r 1 ≡ one
  natural_in-one = plus-nil r one

  module _ (p : ℕ) (characteristic : HasCharacteristic r p) where
    -- multiples of the characteristic are 0
    pub natural_in-multiple : (k : ℕ) → natural_in r (p * k) ≡ nil
    natural_in-multiple k = natural_in-mul p k ∙ ap (λ w. w ⊗ natural_in r k) characteristic ∙ nil-times r (natural_in r k)

    -- and a number is its remainder
    pub natural_in-mod : (n : ℕ) → natural_in r (n % p) ≡ natural_in r n
    natural_in-mod n = sym (nil-plus r (natural_in r (n % p))) ∙ ap (λ w. w ⊕ natural_in r (n % p)) (sym (natural_in-multiple (n / p))) ∙ sym (natural_in-add (p * (n / p)) (n % p)) ∙ ap (natural_in r) (div-add-mod n p)

    -- p - c is the negative of c
    pub natural_in-opposite : (c : ℕ) → c ≤ p → natural_in r (p - c) ≡ neg (natural_in r c)
    natural_in-opposite c h = neg_from_plus r (natural_in r (p - c)) (natural_in r c) (sym (natural_in-add (p - c) c) ∙ ap (natural_in r) (omega arith) ∙ characteristic)

    -- what has an inverse among the remainders is not 0, where 1 is not 0
    pub natural_in-nonzero : one ≢ nil → (a b : ℕ) → a * b % p ≡ 1 → natural_in r a ≢ nil
    natural_in-nonzero h a b inverse e = h (sym natural_in-one ∙ ap (natural_in r) (sym inverse) ∙ natural_in-mod (a * b) ∙ natural_in-mul a b ∙ ap (λ w. w ⊗ natural_in r b) e ∙ nil-times r (natural_in r b))
