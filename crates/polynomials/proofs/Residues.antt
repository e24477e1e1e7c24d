-- The residues modulo p are a commutative ring.
use Rattle.std.proofs.Common.{◌≡◌, ℕ, zero, suc, ◌+◌, ◌-◌, ◌*◌, ◌%◌, ◌<◌, sym, ap, ◌∙◌, mod-lt, mod-eq_of_lt, mul_comm, mul_assoc, mul-add, one-mul, arith, add_comm}
use mathlib.Core.HLevel.{Σ_prop_path}
use native.Mathlib.Bridge.{le_prop}
use native.Mathlib.Nat.{mod-add-mod, add-mod-mod, add-mod, mod_self}
use Rattle.std.proofs.lemmas.Nat.{mul-mod_first, mul-mod_second}
use Rattle.polynomials.specs.Rings.{Ring, natural_in, HasCharacteristic}

-- the numbers below p
abbrev pub Residue : ℕ → Type 0
Residue p = (n : ℕ) × (n < p)

-- residues are the same where the numbers are
pub residue_path : (p : ℕ) (x y : Residue p) → x.0 ≡ y.0 → x ≡ y
residue_path p x y e = Σ_prop_path (λ n. le_prop) e

-- the residue of a number
abbrev pub residue_of : (p : ℕ) → 0 < p → ℕ → Residue p
residue_of p positive n = (n % p, mod-lt n positive)

-- the ring of the residues
abbrev pub residues : (p : ℕ) → 0 < p → Ring (Residue p)
residues p positive = record {
  ◌⊕◌ = λ x y. residue_of p positive (x.0 + y.0);
  ◌⊗◌ = λ x y. residue_of p positive (x.0 * y.0);
  nil = (0, positive);
  one = residue_of p positive 1;
  neg = λ x. residue_of p positive (p - x.0);
  add_comm = λ x y. residue_path p _ _ (ap (λ n. n % p) (add_comm x.0 y.0));
  add_assoc = λ x y z. residue_path p _ _ (mod-add-mod (x.0 + y.0) p z.0 ∙ ap (λ n. n % p) (add_regroup x.0 y.0 z.0) ∙ sym (add-mod-mod x.0 (y.0 + z.0) p));
  nil-add = λ x. residue_path p _ _ (ap (λ n. n % p) (zero_plus x.0) ∙ mod-eq_of_lt x.1);
  neg-add = λ x. residue_path p _ _ (mod-add-mod (p - x.0) p x.0 ∙ ap (λ n. n % p) (back x.0 x.1) ∙ mod_self p);
  mul_comm = λ x y. residue_path p _ _ (ap (λ n. n % p) (mul_comm x.0 y.0));
  mul_assoc = λ x y z. residue_path p _ _ (mul-mod_first (x.0 * y.0) z.0 p ∙ ap (λ n. n % p) (mul_assoc x.0 y.0 z.0) ∙ sym (mul-mod_second x.0 (y.0 * z.0) p));
  one-mul = λ x. residue_path p _ _ (mul-mod_first 1 x.0 p ∙ ap (λ n. n % p) (one-mul x.0) ∙ mod-eq_of_lt x.1);
  mul-add = λ x y z. residue_path p _ _ (mul-mod_second x.0 (y.0 + z.0) p ∙ ap (λ n. n % p) (mul-add x.0 y.0 z.0) ∙ add-mod (x.0 * y.0) (x.0 * z.0) p);
}
  where
    add_regroup : (a b c : ℕ) → a + b + c ≡ a + (b + c)
    add_regroup a b c = omega arith

    zero_plus : (a : ℕ) → 0 + a ≡ a
    zero_plus a = omega arith

    back : (a : ℕ) → a < p → p - a + a ≡ p
    back a h = omega arith

module _ (p : ℕ) (positive : 0 < p) where
  -- as a residue a number is its remainder
  pub natural_in-residues : (n : ℕ) → (natural_in (residues p positive) n).0 ≡ n % p
  natural_in-residues zero = sym (mod-eq_of_lt positive)
  natural_in-residues (suc n) = ap (λ k. (1 % p + k) % p) (natural_in-residues n) ∙ sym (add-mod 1 n p) ∙ ap (λ k. k % p) one_more
    where
      one_more : 1 + n ≡ suc n
      one_more = omega arith

  -- and a number below p is itself
  pub natural_in-residues_small : (n : ℕ) → n < p → (natural_in (residues p positive) n).0 ≡ n
  natural_in-residues_small n h = natural_in-residues n ∙ mod-eq_of_lt h

  -- the sum of p ones is 0
  pub residues_characteristic : HasCharacteristic (residues p positive) p
  residues_characteristic = residue_path p _ _ (natural_in-residues p ∙ mod_self p)
