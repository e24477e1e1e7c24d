-- Prime numbers: a test by computation, inverses, and Euclid's lemma.
use Rattle.std.proofs.Common.{◌≡◌, ◌≢◌, inl, inr, ℕ, zero, suc, ◌*◌, ◌/◌, ◌%◌, ◌<◌, ◌≤◌, min, Bool, true, cond, eqb, ltb, not, ◌&&◌, List, [], ◌∷◌, length, Contains, slice_index_or, refl, subst, arith}
use Rattle.std.proofs.Math.Nat.{mul-mod_right}
use Rattle.std.proofs.lemmas.Nat.{div-add-mod', mul-le}
use Rattle.std.proofs.lemmas.Bool.{cases_lt}
use Rattle.std.proofs.lemmas.Bool.Decides.{nat_tests}
use Rattle.polynomials.specs.Primes.{IsPrime, field_primes}

-- no number from 2 up to and not with k divides p
abbrev pub no_divisor_below : ℕ → ℕ → Bool
no_divisor_below p zero = true
no_divisor_below p (suc k) = cond (ltb k 2) true (not (eqb (p % k) 0)) && no_divisor_below p k

-- the step of the test
no_divisor_here : (p k d : ℕ) (rest : Bool) → (cond (ltb k 2) true (not (eqb (p % k) 0)) && rest) ≡ true → 1 < d → d ≡ k → p % d ≢ 0
no_divisor_here p k d rest t many here = grind (arith, nat_tests)

-- the rest of the test
no_divisor_later : (p k : ℕ) (rest : Bool) → (cond (ltb k 2) true (not (eqb (p % k) 0)) && rest) ≡ true → rest ≡ true
no_divisor_later p k rest t = grind (arith, nat_tests)

-- the test says what it is named for
no_divisor_from_test : (p k d : ℕ) → no_divisor_below p k ≡ true → 1 < d → d < k → p % d ≢ 0
no_divisor_from_test p zero d t many small = absurd (omega arith)
no_divisor_from_test p (suc k) d t many small =
    elim (cases_lt d k) [
      | inl lt ↦ no_divisor_from_test p k d (no_divisor_later p k _ t) many lt
      | inr ge ↦ no_divisor_here p k d _ t many (omega arith)
    ]

-- a divisor d and the quotient q of p below 257 * 257 aren't both at least 257
small_quotient : (p d q : ℕ) → q * d ≡ p → p < 66049 → 257 ≤ d → q < 257
small_quotient p d q e small large =
    elim (cases_lt q 257) [ inl lt ↦ lt | inr ge ↦ absurd (omega (arith, mul-le 257 257 q d ge large)) ]

-- where d between 1 and p divides p, so does the quotient, which is greater than 1 too
quotient_many : (p d q : ℕ) → q * d ≡ p → d < p → 1 < q
quotient_many p d zero e small = absurd (omega arith)
quotient_many p d (suc zero) e small = absurd (omega arith)
quotient_many p d (suc (suc q)) e small = omega arith

-- the quotient divides p
quotient_divides : (p d q : ℕ) → q * d ≡ p → p % q ≡ 0
quotient_divides p d q e = subst (λ x. x % q ≡ 0) e (mul-mod_right q d)

-- the quotient by a divisor greater than 1 is less than p
quotient_smaller : (p d q : ℕ) → q * d ≡ p → 1 < d → 0 < p → q < p
quotient_smaller p zero q e many pos = absurd (omega arith)
quotient_smaller p (suc zero) q e many pos = absurd (omega arith)
quotient_smaller p (suc (suc d)) zero e many pos = omega arith
quotient_smaller p (suc (suc d)) (suc q) e many pos = omega arith

-- a number below 257 * 257 that passes the test up to 257 is prime
no_divisor_at_all : (p d : ℕ) → p < 66049 → no_divisor_below p (min 257 p) ≡ true → 1 < d → d < p → p % d ≢ 0
no_divisor_at_all p d small t many below divides =
    let whole : p / d * d ≡ p = omega (arith, div-add-mod' p d) in
    elim (cases_lt d 257) [
      | inl lt ↦ no_divisor_from_test p (min 257 p) d t many (omega arith) divides
      | inr ge ↦ no_divisor_from_test p (min 257 p) (p / d) t (quotient_many p d (p / d) whole below)
          (omega (arith, small_quotient p d (p / d) whole small ge, quotient_smaller p d (p / d) whole many (omega arith)))
          (quotient_divides p d (p / d) whole)
    ]

-- a test by computation
pub prime_from_test : (p : ℕ) → 1 < p → p < 66049 → no_divisor_below p (min 257 p) ≡ true → IsPrime p
prime_from_test p many small t = record { many = many; no_divisor = λ d. no_divisor_at_all p d small t }

-- the test of one number below 257 * 257
abbrev is_prime : ℕ → Bool
is_prime p = ltb 1 p && (ltb p 66049 && no_divisor_below p (min 257 p))

-- the test of each number
abbrev are_primes : List ℕ → Bool
are_primes [] = true
are_primes (p ∷ ps) = is_prime p && are_primes ps

-- both parts of a test that holds, hold
and_left : (a b : Bool) → (a && b) ≡ true → a ≡ true
and_left a b h = grind arith

and_right : (a b : Bool) → (a && b) ≡ true → b ≡ true
and_right a b h = grind arith

-- the test of order says what it is named for
less_from_test : (a b : ℕ) → ltb a b ≡ true → a < b
less_from_test a b t = grind (arith, nat_tests)

-- a number that passes the test is prime
IsPrime-is_prime : (p : ℕ) → is_prime p ≡ true → IsPrime p
IsPrime-is_prime p t =
    let rest : (ltb p 66049 && no_divisor_below p (min 257 p)) ≡ true = and_right (ltb 1 p) _ t in
    prime_from_test p (less_from_test 1 p (and_left (ltb 1 p) _ t)) (less_from_test p 66049 (and_left (ltb p 66049) _ rest)) (and_right (ltb p 66049) _ rest)

-- so is each number of a list that passes
IsPrime-at : (ps : List ℕ) (k p : ℕ) → are_primes ps ≡ true → k < length ps → slice_index_or ps k p ≡ p → IsPrime p
IsPrime-at [] k p t below e = absurd (omega arith)
IsPrime-at (q ∷ qs) zero p t below e = subst IsPrime e (IsPrime-is_prime q (and_left _ _ t))
IsPrime-at (q ∷ qs) (suc k) p t below e = IsPrime-at qs k p (and_right (is_prime q) _ t) (omega arith) e

-- the numbers of the table are primes
pub IsPrime-field_primes : (p : ℕ) → Contains field_primes p → IsPrime p
IsPrime-field_primes p (k, below, e) = IsPrime-at field_primes k p refl below e
