-- Words of 16-bit exponents.
use Rattle.std.specs.Prelude.{◌≡◌, ℕ, zero, suc, ◌+◌, ◌*◌, ◌/◌, ◌%◌, ◌^◌, ◌<◌, List, [], ◌∷◌}
use Rattle.std.proofs.Common.{ap, ◌∙◌, arith, lit<}
use Rattle.std.proofs.Math.Nat.{div-add-mod, div-lt_iff_lt-mul, pow-suc}

-- the n exponents of a word, the least variable in the lowest bits
unfoldable pub exponents : ℕ → ℕ → List ℕ
exponents zero w = []
exponents (suc n) w = w % 65536 ∷ exponents n (w / 65536)

-- the word of a list of exponents
unfoldable pub packed : List ℕ → ℕ
packed [] = 0
packed (e ∷ m) = e + 65536 * packed m

-- none of the n exponents carries into the next where the words a and b are added
unfoldable pub AddWithoutCarry : ℕ → ℕ → ℕ → Type 0
AddWithoutCarry zero a b = Unit {0}
AddWithoutCarry (suc n) a b =
    (a % 65536 + b % 65536 < 65536) × AddWithoutCarry n (a / 65536) (b / 65536)

-- a word without its lowest exponent has one exponent less
pub upper_below : (n w : ℕ) → w < 65536 ^ suc n → w / 65536 < 65536 ^ n
upper_below n w below = (div-lt_iff_lt-mul (lit< tt)).1 (rw (← pow-suc 65536 n) below)

-- the exponents of a word are those of no other
pub packed-exponents : (n w : ℕ) → w < 65536 ^ n → packed (exponents n w) ≡ w
unfolding exponents packed
packed-exponents zero w below = omega arith
packed-exponents (suc n) w below =
    ap (λ x. w % 65536 + 65536 * x) (packed-exponents n (w / 65536) (upper_below n w below))
    ∙ omega (arith, div-add-mod w 65536)
