-- Inverses modulo a prime, and Euclid's lemma.
use Rattle.std.proofs.Common.{◌≡◌, ◌≢◌, ◌⊎◌, inl, inr, ℕ, zero, suc, ◌+◌, ◌*◌, ◌-◌, ◌/◌, ◌%◌, ◌<◌, ◌≤◌, Bool, true, false, eqb, refl, sym, ◌∙◌, ap, subst, arith}
use Rattle.std.proofs.Math.Nat.{mul-add-mod_self_left, mul_assoc, mul-one, mod-eq_of_lt, div-le_self}
use Rattle.std.proofs.lemmas.Nat.{div-add-mod', mul-mod_first, mul-mod_second, mod_below}
use Rattle.std.proofs.lemmas.Bool.{cases_eq}
use Rattle.std.proofs.lemmas.Bool.Decides.{nat_tests}
use Rattle.polynomials.specs.Primes.{IsPrime, IsInverse, first_inverse, inverse_of}

-- where p = q a + r and t + q = p, a t is r and k times p, for a = k + 1
pub turned_product : (p a k q r t : ℕ) → a ≡ k + 1 → q * a + r ≡ p → t + q ≡ p → a * t ≡ p * k + r
turned_product p a k q r t one_more whole sum = omega (arith, ap (λ x. a * x) sum, ap (λ x. x * p) one_more)

-- an inverse s of r gives one of a, where p = q a + r and t + q = p
inverse_step : (p a q r t s : ℕ) → q * a + r ≡ p → t + q ≡ p → 0 < a → r * s % p ≡ 1 → a * (t * s) % p ≡ 1
inverse_step p a q r t s whole sum pos e =
    let product : a * t ≡ p * (a - 1) + r = turned_product p a (a - 1) q r t (omega arith) whole sum in
    let scaled : a * (t * s) ≡ p * ((a - 1) * s) + r * s = sym (mul_assoc a t s) ∙ ap (λ x. x * s) product ∙ multiplied_out p (a - 1) r s in
    ap (λ x. x % p) scaled ∙ mul-add-mod_self_left p ((a - 1) * s) (r * s) ∙ e
  where
    multiplied_out : (p k r s : ℕ) → (p * k + r) * s ≡ p * (k * s) + r * s
    multiplied_out p k r s = omega arith

-- the remainder of p by a isn't 0 for a between 1 and p
pub remainder_positive : (p a : ℕ) → IsPrime p → 1 < a → a < p → 0 < p % a
remainder_positive p a prime many below =
    let no_divisor : p % a ≢ 0 = prime.no_divisor a many below in
    omega arith

-- a residue other than 0 has an inverse; a is below n
inverse_within : (n p a : ℕ) → IsPrime p → a < n → 0 < a → a < p → (b : ℕ) × (a * b % p ≡ 1)
inverse_within zero p a prime fuel pos below = absurd (omega arith)
inverse_within (suc n) p a prime fuel pos below =
    elim (cases_eq a 1) [
      | inl one ↦ (1, subst (λ x. x * 1 % p ≡ 1) (sym one) (mod-eq_of_lt prime.many))
      | inr other ↦
          let many : 1 < a = omega arith in
          let smaller : p % a < a = omega arith in
          let made = inverse_within n p (p % a) prime (omega arith) (remainder_positive p a prime many below) (omega arith) in
          ((p - p / a) * made.0, inverse_step p a (p / a) (p % a) (p - p / a) made.0 (omega (arith, div-add-mod' p a)) (omega (arith, div-add-mod' p a, div-le_self p a)) pos made.1)
    ]

-- an inverse of a below n
abbrev IsInverseBelow : ℕ → ℕ → ℕ → ℕ → Type 0
IsInverseBelow p a n b = (b < n) × (a * b % p ≡ 1)

-- one step of the search for an inverse c, by its test of b; later is what the further search finds
found_by_test : (p a n b c later : ℕ) (t : Bool) → eqb (a * b % p) 1 ≡ t → b < n → a * c % p ≡ 1 → (b ≢ c → IsInverseBelow p a n later) → IsInverseBelow p a n (elim t [ true ↦ b | false ↦ later ])
found_by_test p a n b c later true test below e further = (below, grind (arith, nat_tests))
found_by_test p a n b c later false test below e further = further (λ same. absurd (grind (arith, nat_tests)))

-- the search among k numbers from b on finds an inverse, where there is one
first_inverse_is : (p a n k b c : ℕ) → b + k ≡ n → b ≤ c → c < n → a * c % p ≡ 1 → IsInverseBelow p a n (first_inverse p a k b)
first_inverse_is p a n zero b c sum from to e = absurd (omega arith)
first_inverse_is p a n (suc k) b c sum from to e =
    found_by_test p a n b c (first_inverse p a k (suc b)) (eqb (a * b % p) 1) refl (omega arith) e
    (λ other. first_inverse_is p a n k (suc b) c (omega arith) (omega arith) to e)

-- each residue other than 0 has an inverse, and the search finds one
pub inverse_of_is : (p a : ℕ) → IsPrime p → 0 < a → a < p → IsInverse p a (inverse_of p a)
inverse_of_is p a prime pos below =
    let made = inverse_within (suc a) p a prime (omega arith) pos below in
    let residue : a * (made.0 % p) % p ≡ 1 = mul-mod_second a made.0 p ∙ made.1 in
    first_inverse_is p a p p 0 (made.0 % p) (omega arith) (omega arith) (mod_below made.0 p (omega (arith, prime.many))) residue

-- modulo p, b is b times a product that is 1
times_one : (p b x : ℕ) → x % p ≡ 1 → b * x % p ≡ b % p
times_one p b x e = sym (mul-mod_second b x p) ∙ ap (λ y. b * y % p) e ∙ ap (λ y. y % p) (mul-one b)

-- a has one inverse only
pub inverse_unique : (p a b c : ℕ) → IsInverse p a b → IsInverse p a c → b ≡ c
inverse_unique p a b c left right =
    let turned : b * (a * c) ≡ c * (a * b) = grind arith in
    sym (mod-eq_of_lt left.0) ∙ sym (times_one p b (a * c) right.1) ∙ ap (λ x. x % p) turned ∙ times_one p c (a * b) left.1 ∙ mod-eq_of_lt right.0

-- a residue that is an inverse is the one that the search finds
pub inverse_of_unique : (p a b : ℕ) → IsPrime p → 0 < a → a < p → b < p → a * b % p ≡ 1 → b ≡ inverse_of p a
inverse_of_unique p a b prime pos below small e =
    inverse_unique p a b (inverse_of p a) (small, e) (inverse_of_is p a prime pos below)

-- multiples of 0 are 0
pub mod-zero : (p c : ℕ) → c * 0 % p ≡ 0
mod-zero p c = omega arith

-- a factor with an inverse leaves the other factor 0
other_factor : (p a b c : ℕ) → a * c % p ≡ 1 → a * b % p ≡ 0 → b % p ≡ 0
other_factor p a b c one product =
    let turned : b * (a * c) ≡ c * (a * b) = grind arith in
    sym (times_one p b (a * c) one) ∙ ap (λ x. x % p) turned ∙ sym (mul-mod_second c (a * b) p) ∙ ap (λ y. c * y % p) product ∙ mod-zero p c

-- a prime that divides a product divides a factor
pub prime_divides_a_factor : (p a b : ℕ) → IsPrime p → a * b % p ≡ 0 → (a % p ≡ 0) ⊎ (b % p ≡ 0)
prime_divides_a_factor p a b prime product =
    elim (cases_eq (a % p) 0) [
      | inl divides ↦ inl divides
      | inr other ↦
          let below : a % p < p = mod_below a p (omega (arith, prime.many)) in
          let inverse = inverse_of_is p (a % p) prime (omega arith) below in
          inr (other_factor p (a % p) b (inverse_of p (a % p)) inverse.1 (mul-mod_first a b p ∙ product))
    ]
