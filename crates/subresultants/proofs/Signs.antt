-- Negatives as differences from 0, and 1 and -1 by parity.
use Rattle.std.proofs.Common.{◌≡◌, ◌<◌, ◌%◌, ℕ, zero, suc, [], refl, ap, arith}
use Rattle.polynomials.specs.Polynomials.{Polynomial, IsPolynomial, difference_of, negative_of}
use Rattle.polynomials.proofs.Canonical.{IsPolynomial-negative_of}
use Rattle.polynomials.proofs.PolynomialLaws.{zero-sum_of}
use Rattle.polynomials.proofs.PolynomialRing.{polynomial_ring}
use Rattle.polynomials.proofs.RingLaws.{neg-neg}
use Rattle.division_rules.specs.Lists.{list_operations}
use Rattle.division_rules.specs.Operations.{sign}
use Rattle.division_rules.proofs.CanonicalRows.{IsPolynomial-sign}

module _ (p n : ℕ) (many : 1 < p) where
  -- what is taken from 0 leaves its negative
  pub difference-from_zero : (f : Polynomial) → IsPolynomial p n f → difference_of p [] f ≡ negative_of p f
  difference-from_zero f i = zero-sum_of p (omega arith) n (negative_of p f) (IsPolynomial-negative_of p n f i)

  -- two signs more make no difference
  sign-two_more : (k : ℕ) → sign (list_operations p n) (suc (suc k)) ≡ sign (list_operations p n) k
  sign-two_more k = ap (λ x. x.0) (neg-neg (polynomial_ring p n many) (sign (list_operations p n) k, IsPolynomial-sign p n many k))

  -- the sign after an even number is -1, and that after an odd number is 1
  pub sign-after_even : (k : ℕ) → k % 2 ≡ 0 → sign (list_operations p n) (suc k) ≡ sign (list_operations p n) 1
  sign-after_even zero even = refl
  sign-after_even (suc zero) even = cc
  sign-after_even (suc (suc k)) even =
      let before = sign-after_even k (omega (arith, even)) in
      let more = sign-two_more (suc k) in
      cc

  pub sign-after_odd : (k : ℕ) → (k % 2 ≡ 0 → ⊥) → sign (list_operations p n) (suc k) ≡ sign (list_operations p n) 0
  sign-after_odd zero odd = absurd (odd refl)
  sign-after_odd (suc zero) odd = sign-two_more 0
  sign-after_odd (suc (suc k)) odd =
      let before = sign-after_odd k (λ even. odd (omega (arith, even))) in
      let more = sign-two_more (suc k) in
      cc
