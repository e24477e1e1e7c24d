-- The greater exponents of two monomials, from the greatest variable down.
use Rattle.std.proofs.Common.{◌≡◌, ℕ, zero, suc, ◌+◌, ◌*◌, ◌-◌, ◌%◌, ◌^◌, ◌<◌, ◌≤◌, max, [], ◌∷◌, length, drop, refl, sym, ◌∙◌, ap, ap₂, arith, lit<, drop-cons}
use Rattle.std.proofs.Math.Nat.{pow-suc, pow-le-pow_right, mod-eq_of_lt}
use Rattle.std.proofs.Math.ListN.{drop_of_length-le}
use Rattle.polynomials.specs.Monomials.{Monomial, exponent_of, MonomialDivides}
use Rattle.polynomials.specs.Fits.{greater_exponents}
use Rattle.mono_words.specs.Words.{exponents}

-- the exponents of the word are the greater ones of the variables from j on
pub record IsUpperPart (l m : Monomial) (j word : ℕ) : Type 0 where
  pub places : j ≤ 4
  pub below : word < 65536 ^ (4 - j)
  pub same : exponents (4 - j) word ≡ greater_exponents (drop j l) (drop j m)

-- one exponent more, below the others
one_lower : (k word e : ℕ) → e < 65536 → exponents (suc k) (word * 65536 + e) ≡ e ∷ exponents k word
unfolding exponents
one_lower k word e small = ap₂ ◌∷◌ (omega arith) (ap (exponents k) (omega arith))

-- the lists from one variable lower on
greater_exponents-drop : (l m : Monomial) (j : ℕ) → j < length l → j < length m → greater_exponents (drop j l) (drop j m) ≡ max (exponent_of j l) (exponent_of j m) ∷ greater_exponents (drop (suc j) l) (drop (suc j) m)
greater_exponents-drop l m j in_first in_second = ap₂ greater_exponents (drop-cons l j 0 in_first) (drop-cons m j 0 in_second)

-- the shift to make place loses nothing
shifted_whole : (j word : ℕ) → word < 65536 ^ (4 - suc j) → word * 65536 % 2 ^ 64 ≡ word * 65536
shifted_whole j word below =
    let most : 65536 ^ (4 - suc j) ≤ 65536 ^ 3 = pow-le-pow_right {n = 65536} (lit< tt) {i = 4 - suc j} {j = 3} (omega arith) in
    mod-eq_of_lt (omega arith)

-- the next variable
next_lower : (l m : Monomial) (j word e : ℕ) → length l ≡ 4 → length m ≡ 4 → e < 65536 → e ≡ max (exponent_of j l) (exponent_of j m) → j < 4 → IsUpperPart l m (suc j) word → IsUpperPart l m j (word * 65536 + e)
next_lower l m j word e first second small greater inside upper =
    let count : 4 - j ≡ suc (4 - suc j) = omega arith in
    record {
      places = omega arith;
      below = rw (count, pow-suc) (omega (arith, upper.below));
      same =
          ap (λ k. exponents k (word * 65536 + e)) count ∙ one_lower (4 - suc j) word e small
          ∙ ap₂ ◌∷◌ greater upper.same ∙ sym (greater_exponents-drop l m j (omega arith) (omega arith));
    }

-- the same, as the loop makes it
pub next_shifted : (l m : Monomial) (v word e : ℕ) → length l ≡ 4 → length m ≡ 4 → e < 65536 → e ≡ max (exponent_of (v - 1) l) (exponent_of (v - 1) m) → 0 < v → IsUpperPart l m v word → IsUpperPart l m (v - 1) (word * 65536 % 2 ^ 64 + e)
next_shifted l m zero word e first second small greater inside upper = absurd (omega arith)
next_shifted l m (suc j) word e first second small greater inside upper =
    let place : suc j - 1 ≡ j = omega arith in
    rw (place, shifted_whole j word upper.below)
    (next_lower l m j word e first second small (rw place at greater) (omega (arith, upper.places)) upper)

-- no variable yet
pub none_yet : (l m : Monomial) → length l ≡ 4 → length m ≡ 4 → IsUpperPart l m 4 0
unfolding exponents
none_yet l m first second =
    record {
      places = omega arith;
      below = lit< tt;
      same = sym (ap₂ greater_exponents (drop_of_length-le l {i = 4} (omega arith)) (drop_of_length-le m {i = 4} (omega arith)));
    }

-- of a multiple and a divisor the multiple has the greater exponents
pub greater_exponents-multiple : (l m : Monomial) → length l ≡ length m → MonomialDivides m l → greater_exponents l m ≡ l
greater_exponents-multiple [] [] same divides = refl
greater_exponents-multiple [] (e ∷ m) same divides = cc
greater_exponents-multiple (d ∷ l) [] same divides = refl
greater_exponents-multiple (d ∷ l) (e ∷ m) same divides = ap₂ ◌∷◌ (let least = divides 0 in omega arith) (greater_exponents-multiple l m (omega arith) (λ v. divides (suc v)))
