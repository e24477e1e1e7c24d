-- Sums and differences of words, and their exponents.
use Rattle.std.proofs.Common.{◌≡◌, ℕ, zero, suc, ◌+◌, ◌-◌, ◌/◌, ◌%◌, ◌^◌, ◌<◌, ◌≤◌, true, ◌∷◌, length, refl, sym, ◌∙◌, ap, ap₂, subst, arith, lit<}
use Rattle.std.proofs.Math.Nat.{div-lt_iff_lt-mul, pow-suc}
use Rattle.std.proofs.lemmas.Bool.{and_from}
use Rattle.std.proofs.lemmas.Bool.Decides.{nat_tests}
use Rattle.polynomials.specs.Monomials.{exponent_of, monomial_product, MonomialDivides, ExponentsFit}
use Rattle.polynomials.specs.MonomialOrders.{monomial_product_comm}
use Rattle.polynomials.specs.Fits.{is_exponent_list}
use Rattle.mono_words.specs.Words.{exponents, packed, packed-exponents, AddWithoutCarry, upper_below}

-- as many exponents as were asked for
pub length-exponents : (n w : ℕ) → length (exponents n w) ≡ n
unfolding exponents
length-exponents zero w = refl
length-exponents (suc n) w = ap suc (length-exponents n (w / 65536))

-- each exponent has 16 bits
pub exponent_small : (n w v : ℕ) → exponent_of v (exponents n w) ≤ 65535
unfolding exponents
exponent_small zero w v = omega arith
exponent_small (suc n) w zero = omega arith
exponent_small (suc n) w (suc v) = exponent_small n (w / 65536) v

pub exponents_small : (n w : ℕ) → is_exponent_list (exponents n w) ≡ true
unfolding exponents
exponents_small zero w = refl
exponents_small (suc n) w = and_from _ _ (grind (arith, nat_tests)) (exponents_small n (w / 65536))

-- the exponents tell the word
pub same_word : (n a b : ℕ) → a < 65536 ^ n → b < 65536 ^ n → exponents n a ≡ exponents n b → a ≡ b
same_word n a b small below same = sym (packed-exponents n a small) ∙ ap packed same ∙ packed-exponents n b below

-- the lowest exponent of a sum without carry, and the others
sum_of_lowest : (a b : ℕ) → a % 65536 + b % 65536 < 65536 → (a + b) % 65536 ≡ a % 65536 + b % 65536
sum_of_lowest a b fit = omega arith

pub sum_of_upper : (a b : ℕ) → a % 65536 + b % 65536 < 65536 → (a + b) / 65536 ≡ a / 65536 + b / 65536
sum_of_upper a b fit = omega arith

-- the exponents of a sum without carry are the sums of the exponents
pub exponents-add : (n a b : ℕ) → AddWithoutCarry n a b → exponents n (a + b) ≡ monomial_product (exponents n a) (exponents n b)
unfolding exponents AddWithoutCarry
exponents-add zero a b fit = refl
exponents-add (suc n) a b fit =
    ap₂ ◌∷◌ (sum_of_lowest a b fit.0) (ap (exponents n) (sum_of_upper a b fit.0) ∙ exponents-add n (a / 65536) (b / 65536) fit.1)

-- a word is small where it is without its lowest exponent
below_from_upper : (n w : ℕ) → w / 65536 < 65536 ^ n → w < 65536 ^ suc n
below_from_upper n w upper = rw (pow-suc 65536 n) ((div-lt_iff_lt-mul (lit< tt)).0 upper)

-- a sum without carry has no more exponents
pub sum_below : (n a b : ℕ) → a < 65536 ^ n → b < 65536 ^ n → AddWithoutCarry n a b → a + b < 65536 ^ n
unfolding AddWithoutCarry
sum_below zero a b small below fit = omega arith
sum_below (suc n) a b small below fit =
    below_from_upper n (a + b) (rw (sum_of_upper a b fit.0) (sum_below n (a / 65536) (b / 65536) (upper_below n a small) (upper_below n b below) fit.1))

-- no carry is that the exponents fit
pub AddWithoutCarry-fit : (n a b : ℕ) → ExponentsFit (exponents n a) (exponents n b) → AddWithoutCarry n a b
unfolding exponents AddWithoutCarry
AddWithoutCarry-fit zero a b fit = tt
AddWithoutCarry-fit (suc n) a b fit = (omega (arith, fit 0), AddWithoutCarry-fit n (a / 65536) (b / 65536) (λ v. fit (suc v)))

pub fit-AddWithoutCarry : (n a b : ℕ) → AddWithoutCarry n a b → ExponentsFit (exponents n a) (exponents n b)
unfolding exponents AddWithoutCarry
fit-AddWithoutCarry zero a b add v = omega arith
fit-AddWithoutCarry (suc n) a b add zero = omega (arith, add.0)
fit-AddWithoutCarry (suc n) a b add (suc v) = fit-AddWithoutCarry n (a / 65536) (b / 65536) add.1 v

-- a part of a sum without carry divides it
pub divides-sum : (n a b : ℕ) → AddWithoutCarry n a b → MonomialDivides (exponents n a) (exponents n (a + b))
unfolding exponents AddWithoutCarry
divides-sum zero a b add v = omega arith
divides-sum (suc n) a b add zero = omega (arith, sum_of_lowest a b add.0)
divides-sum (suc n) a b add (suc v) =
    subst (λ x. exponent_of v (exponents n (a / 65536)) ≤ exponent_of v (exponents n x)) (sym (sum_of_upper a b add.0)) (divides-sum n (a / 65536) (b / 65536) add.1 v)

-- a divisor is no greater than the word, and the difference adds to it without a carry
pub difference_of : (n a b : ℕ) → a < 65536 ^ n → b < 65536 ^ n → MonomialDivides (exponents n a) (exponents n b) → (a ≤ b) × AddWithoutCarry n a (b - a)
unfolding exponents AddWithoutCarry
difference_of zero a b small below divides = (omega arith, tt)
difference_of (suc n) a b small below divides =
    let lowest : a % 65536 ≤ b % 65536 = divides 0 in
    let upper = difference_of n (a / 65536) (b / 65536) (upper_below n a small) (upper_below n b below) (λ v. divides (suc v)) in
    let quotient : (b - a) / 65536 ≡ b / 65536 - a / 65536 = omega (arith, upper.0) in
    (omega (arith, upper.0), (omega (arith, upper.0), subst (AddWithoutCarry n (a / 65536)) (sym quotient) upper.1))

-- the quotient by a divisor is the difference of the words
pub exponents-sub : (n a b : ℕ) → a < 65536 ^ n → b < 65536 ^ n → MonomialDivides (exponents n a) (exponents n b) → monomial_product (exponents n (b - a)) (exponents n a) ≡ exponents n b
exponents-sub n a b small below divides =
    let parts = difference_of n a b small below divides in
    let whole : a + (b - a) ≡ b = omega (arith, parts.0) in
    monomial_product_comm (exponents n (b - a)) (exponents n a) ∙ sym (exponents-add n a (b - a) parts.1) ∙ ap (exponents n) whole

-- a word divides where the difference adds to it without a carry
pub divides_from_difference : (n a b : ℕ) → a ≤ b → AddWithoutCarry n a (b - a) → MonomialDivides (exponents n a) (exponents n b)
divides_from_difference n a b below add =
    let whole : a + (b - a) ≡ b = omega arith in
    subst (λ x. MonomialDivides (exponents n a) (exponents n x)) whole (divides-sum n a (b - a) add)
