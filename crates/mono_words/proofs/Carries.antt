-- The lowest bits of the exponents of two words and of their sum show the carries.
use Rattle.std.proofs.Common.{◌≡◌, inl, inr, ℕ, zero, suc, ◌+◌, ◌*◌, ◌/◌, ◌%◌, ◌^◌, ◌<◌, bit_and, bit_xor, refl, sym, ◌∙◌, ap, ap₂, subst, arith, lit<}
use Rattle.std.proofs.Math.Nat.{div-add-mod}
use Rattle.std.proofs.lemmas.Bool.{cases_lt}
use Rattle.std.proofs.lemmas.Nat.{and_block, and_mask, xor_shr, xor_mod, mod_below}
use Rattle.mono_words.specs.Words.{AddWithoutCarry, upper_below}
use Rattle.mono_words.proofs.Lanes.{sum_of_upper}

-- the lowest bit of each of n exponents
abbrev pub lowest_bits : ℕ → ℕ
lowest_bits zero = 0
lowest_bits (suc n) = 65536 * lowest_bits n + 1

-- the lowest bits of the exponents of x are 0
abbrev EvenExponents : ℕ → ℕ → Type 0
EvenExponents zero x = Unit {0}
EvenExponents (suc n) x = (x % 2 ≡ 0) × EvenExponents n (x / 65536)

-- the mask takes one exponent at a time
bit_and-lowest_bits : (n x : ℕ) → bit_and x (lowest_bits (suc n)) ≡ bit_and (x / 65536) (lowest_bits n) * 65536 + x % 2
bit_and-lowest_bits n x =
    let split : x ≡ x / 65536 * 2 ^ 16 + x % 65536 = omega (arith, div-add-mod x 65536) in
    let mask : lowest_bits (suc n) ≡ lowest_bits n * 2 ^ 16 + 1 = omega arith in
    let low : bit_and (x % 65536) 1 ≡ x % 2 = and_mask (x % 65536) 1 ∙ omega arith in
    ap₂ bit_and split mask ∙ and_block 16 (x / 65536) (lowest_bits n) (x % 65536) 1 (mod_below x 65536 (lit< tt)) (lit< tt)
    ∙ ap (λ y. bit_and (x / 65536) (lowest_bits n) * 65536 + y) low

-- the mask tests them all
EvenExponents-bit_and : (n x : ℕ) → bit_and x (lowest_bits n) ≡ 0 → EvenExponents n x
EvenExponents-bit_and zero x e = tt
EvenExponents-bit_and (suc n) x e =
    let parts : bit_and (x / 65536) (lowest_bits n) * 65536 + x % 2 ≡ 0 = sym (bit_and-lowest_bits n x) ∙ e in
    (omega arith, EvenExponents-bit_and n (x / 65536) (omega arith))

bit_and-EvenExponents : (n x : ℕ) → EvenExponents n x → bit_and x (lowest_bits n) ≡ 0
bit_and-EvenExponents zero x even = and_mask x 0 ∙ omega arith
bit_and-EvenExponents (suc n) x even =
    bit_and-lowest_bits n x ∙ omega (arith, bit_and-EvenExponents n (x / 65536) even.1, even.0)

-- the exclusive or of two bits
xor_of_bits : (r s : ℕ) → r < 2 → s < 2 → bit_xor r s ≡ (r + s) % 2
xor_of_bits zero zero small below = refl
xor_of_bits zero (suc zero) small below = refl
xor_of_bits (suc zero) zero small below = refl
xor_of_bits (suc zero) (suc zero) small below = refl
xor_of_bits (suc (suc r)) s small below = absurd (omega arith)
xor_of_bits zero (suc (suc s)) small below = absurd (omega arith)
xor_of_bits (suc zero) (suc (suc s)) small below = absurd (omega arith)

-- the lowest bit of an exclusive or is that of the sum
xor_parity : (a b : ℕ) → bit_xor a b % 2 ≡ (a + b) % 2
xor_parity a b = xor_mod a b 1 ∙ xor_of_bits (a % 2) (b % 2) (omega arith) (omega arith) ∙ omega arith

-- the bits that show the carries
abbrev pub turned : ℕ → ℕ → ℕ → ℕ
turned a b c = bit_xor (bit_xor a b) c

turned_parity : (a b c : ℕ) → turned a b c % 2 ≡ (a + b + c) % 2
turned_parity a b c = xor_parity (bit_xor a b) c ∙ omega (arith, xor_parity a b)

turned_upper : (a b c : ℕ) → turned a b c / 65536 ≡ turned (a / 65536) (b / 65536) (c / 65536)
turned_upper a b c = xor_shr (bit_xor a b) c 16 ∙ ap (λ x. bit_xor x (c / 65536)) (xor_shr a b 16)

-- the sum takes no turned bit where nothing carries
even_without_carry : (n a b c : ℕ) → a + b ≡ c → AddWithoutCarry n a b → EvenExponents n (turned a b c)
unfolding AddWithoutCarry
even_without_carry zero a b c sum add = tt
even_without_carry (suc n) a b c sum add = (
  omega (arith, turned_parity a b c),
  subst (EvenExponents n) (sym (turned_upper a b c))
      (even_without_carry n (a / 65536) (b / 65536) (c / 65536) (sym (sum_of_upper a b add.0) ∙ ap (λ x. x / 65536) sum) add.1),
)

-- a carry turns the next lowest bit, or passes the last exponent
carry_shows : (n a b c : ℕ) → a + b + 1 ≡ c → c < 65536 ^ n → EvenExponents n (turned a b c) → ⊥
carry_shows zero a b c sum below even = omega arith
carry_shows (suc n) a b c sum below even = omega (arith, turned_parity a b c, even.0)

-- nothing carries where the sum takes no turned bit
without_carry_from_even : (n a b c : ℕ) → a + b ≡ c → c < 65536 ^ n → EvenExponents n (turned a b c) → AddWithoutCarry n a b
unfolding AddWithoutCarry
without_carry_from_even zero a b c sum below even = tt
without_carry_from_even (suc n) a b c sum below even =
    let upper : EvenExponents n (turned (a / 65536) (b / 65536) (c / 65536)) = subst (EvenExponents n) (turned_upper a b c) even.1 in
    elim (cases_lt (a % 65536 + b % 65536) 65536) [
      | inl fit ↦ (fit, without_carry_from_even n (a / 65536) (b / 65536) (c / 65536) (omega arith) (upper_below n c below) upper)
      | inr carry ↦ absurd (carry_shows n (a / 65536) (b / 65536) (c / 65536) (omega arith) (upper_below n c below) upper)
    ]

-- both ways, by the mask
pub carries_from_mask : (n a b c : ℕ) → a + b ≡ c → c < 65536 ^ n → bit_and (turned a b c) (lowest_bits n) ≡ 0 → AddWithoutCarry n a b
carries_from_mask n a b c sum below e = without_carry_from_even n a b c sum below (EvenExponents-bit_and n (turned a b c) e)

pub mask_from_carries : (n a b c : ℕ) → a + b ≡ c → AddWithoutCarry n a b → bit_and (turned a b c) (lowest_bits n) ≡ 0
mask_from_carries n a b c sum add = bit_and-EvenExponents n (turned a b c) (even_without_carry n a b c sum add)
