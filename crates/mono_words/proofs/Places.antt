-- The place of one variable in a word.
use Rattle.std.proofs.Common.{◌≡◌, ℕ, zero, suc, ◌*◌, ◌-◌, ◌/◌, ◌%◌, ◌^◌, ◌<◌, ◌≤◌, bit_and, ◌∷◌, replicate, set, Some, None, refl, sym, ◌∙◌, ap, ap₂, arith, lit<}
use Rattle.std.proofs.Math.Nat.{div-div-eq-div-mul, pow-succ', pow-suc, pow-le-pow_right, div-mul-le_self}
use Rattle.std.proofs.lemmas.Nat.{mul-le, le-div, pow-add, and_mask, shl_whole}
use Rattle.polynomials.specs.Monomials.{exponent_of, greatest_variable, greatest_of}
use Rattle.mono_words.specs.Words.{exponents, upper_below}

-- one exponent of a word
pub exponent_of-exponents : (n w v : ℕ) → v < n → exponent_of v (exponents n w) ≡ w / 65536 ^ v % 65536
unfolding exponents
exponent_of-exponents zero w v below = absurd (omega arith)
exponent_of-exponents (suc n) w zero below = omega arith
exponent_of-exponents (suc n) w (suc v) below =
    exponent_of-exponents n (w / 65536) v (omega arith) ∙ ap (λ x. x % 65536) (div-div-eq-div-mul w 65536 (65536 ^ v) ∙ ap (λ x. w / x) (sym (pow-succ' 65536 v)))

-- the word 0 is the monomial 1
pub exponents-zero : (n : ℕ) → exponents n 0 ≡ replicate n 0
unfolding exponents
exponents-zero zero = refl
exponents-zero (suc n) = ap (λ m. 0 ∷ m) (exponents-zero n)

-- one exponent alone
pub exponents-power : (n v e : ℕ) → v < n → e < 65536 → exponents n (e * 65536 ^ v) ≡ set (replicate n 0) v e
unfolding exponents
exponents-power zero v e below small = absurd (omega arith)
exponents-power (suc n) zero e below small =
    ap₂ ◌∷◌ (omega arith) (ap (exponents n) (omega arith) ∙ exponents-zero n)
exponents-power (suc n) (suc v) e below small =
    let shifted : e * 65536 ^ suc v ≡ e * 65536 ^ v * 65536 = omega (arith, ap (λ x. e * x) (pow-succ' 65536 v)) in
    ap₂ ◌∷◌ (omega arith) (ap (exponents n) (omega arith) ∙ exponents-power n v e (omega arith) small)

-- an exponent in its place is no more than the word
pub place_le : (w m : ℕ) → w / m % 65536 * m ≤ w
place_le w m = omega (arith, mul-le (w / m % 65536) m (w / m) m (omega arith) (omega arith), div-mul-le_self w m)

-- one place up
one_place_up : (x p : ℕ) → x * (65536 * p) ≡ x * p * 65536
one_place_up x p = omega arith

-- what is taken from the upper exponents leaves the lowest
lowest_stays : (w place x : ℕ) → place ≤ w / 65536 → x ≡ place * 65536 → (w - x) % 65536 ≡ w % 65536
lowest_stays w place x within shifted = omega arith

-- and is taken from them
upper_falls : (w place x : ℕ) → place ≤ w / 65536 → x ≡ place * 65536 → (w - x) / 65536 ≡ w / 65536 - place
upper_falls w place x within shifted = omega arith

-- a word without one of its exponents
pub exponents-without : (n w v : ℕ) → v < n → exponents n (w - w / 65536 ^ v % 65536 * 65536 ^ v) ≡ set (exponents n w) v 0
unfolding exponents
exponents-without zero w v below = absurd (omega arith)
exponents-without (suc n) w zero below = ap₂ ◌∷◌ (omega arith) (ap (exponents n) (omega arith))
exponents-without (suc n) w (suc v) below =
    let place : ℕ = w / 65536 / 65536 ^ v % 65536 * 65536 ^ v in
    let within : place ≤ w / 65536 = place_le (w / 65536) (65536 ^ v) in
    let quotient : w / 65536 ^ suc v ≡ w / 65536 / 65536 ^ v = ap (λ x. w / x) (pow-succ' 65536 v) ∙ sym (div-div-eq-div-mul w 65536 (65536 ^ v)) in
    let shifted : w / 65536 ^ suc v % 65536 * 65536 ^ suc v ≡ place * 65536
    = ap₂ (λ x y. x % 65536 * y) quotient (pow-succ' 65536 v) ∙ one_place_up (w / 65536 / 65536 ^ v % 65536) (65536 ^ v) in
    ap₂ ◌∷◌ (lowest_stays w place _ within shifted) (ap (exponents n) (upper_falls w place _ within shifted) ∙ exponents-without n (w / 65536) v (omega arith))

-- no exponent of the word 0 is greater than 0
pub greatest_variable-zero : (n : ℕ) → greatest_variable (exponents n 0) ≡ None
unfolding exponents
greatest_variable-zero zero = refl
greatest_variable-zero (suc n) = ap (greatest_of 0) (greatest_variable-zero n)

-- the lowest variable, where it alone occurs
greatest_of-none : (e : ℕ) → 0 < e → greatest_of e None ≡ Some 0
greatest_of-none zero pos = absurd (omega arith)
greatest_of-none (suc e) pos = refl

-- the size of a word tells its greatest variable
pub greatest_variable-exponents : (n w v : ℕ) → v < n → 65536 ^ v ≤ w → w < 65536 ^ suc v → greatest_variable (exponents n w) ≡ Some v
unfolding exponents
greatest_variable-exponents zero w v below least most = absurd (omega arith)
greatest_variable-exponents (suc n) w zero below least most =
    ap (λ x. greatest_of (w % 65536) (greatest_variable (exponents n x))) (omega arith)
    ∙ ap (greatest_of (w % 65536)) (greatest_variable-zero n) ∙ greatest_of-none (w % 65536) (omega arith)
greatest_variable-exponents (suc n) w (suc v) below least most =
    ap (greatest_of (w % 65536))
    (greatest_variable-exponents n (w / 65536) v (omega arith)
    (le-div (65536 ^ v) w 65536 (lit< tt) (rw (← pow-suc 65536 v) least)) (upper_below (suc v) w most))

-- exponents by powers of 2
pub power_of_two : (v : ℕ) → 2 ^ (16 * v) ≡ 65536 ^ v
power_of_two zero = refl
power_of_two (suc v) = ap (λ x. 2 ^ x) (omega arith) ∙ pow-add 2 (16 * v) 16 ∙ ap (λ x. x * 65536) (power_of_two v) ∙ sym (pow-suc 65536 v)

-- the greatest variable from the number of the highest bit
pub greatest_variable-bit : (n w j : ℕ) → j / 16 < n → 2 ^ j ≤ w → w < 2 ^ suc j → greatest_variable (exponents n w) ≡ Some (j / 16)
greatest_variable-bit n w j below least most =
    let lower : 2 ^ (16 * (j / 16)) ≤ 2 ^ j = pow-le-pow_right (lit< tt) (omega arith) in
    let upper : 2 ^ suc j ≤ 2 ^ (16 * suc (j / 16)) = pow-le-pow_right (lit< tt) (omega arith) in
    greatest_variable-exponents n w (j / 16) below
    (omega (arith, power_of_two (j / 16))) (omega (arith, power_of_two (suc (j / 16))))

-- an exponent in its place, as it is cut out of a word of 64 bits
pub masked_place : (w v : ℕ) → v < 4 → bit_and (w / 2 ^ (16 * v)) 65535 * 2 ^ (16 * v) % 2 ^ 64 ≡ w / 65536 ^ v % 65536 * 65536 ^ v
masked_place w v below =
    ap (λ x. x * 2 ^ (16 * v) % 2 ^ 64) (and_mask (w / 2 ^ (16 * v)) 16)
    ∙ shl_whole (w / 2 ^ (16 * v) % 65536) 16 (16 * v) 64 (omega arith) (omega arith)
    ∙ ap (λ x. w / x % 65536 * x) (power_of_two v)
