-- Primes, the primes of the fields that are offered, and inverses modulo a prime.
use Rattle.std.specs.Prelude.{◌≡◌, ◌≢◌, ℕ, zero, suc, ◌*◌, ◌%◌, ◌<◌, true, false, eqb, List, [], ◌∷◌}

-- p is greater than 1, and no number between 1 and p divides it
pub record IsPrime (p : ℕ) : Type 0 where
  pub many : 1 < p
  pub no_divisor : (d : ℕ) → 1 < d → d < p → p % d ≢ 0

-- the primes of the fields that are offered
abbrev pub field_primes : List ℕ
field_primes = 2 ∷ 3 ∷ 5 ∷ 7 ∷ 11 ∷ 13 ∷ 101 ∷ 257 ∷ 32003 ∷ 65521 ∷ 65537 ∷ []

-- b is an inverse of a modulo p
abbrev pub IsInverse : ℕ → ℕ → ℕ → Type 0
IsInverse p a b = (b < p) × (a * b % p ≡ 1)

-- the first inverse of a modulo p among the k numbers from b on, or 0 where there is none
abbrev pub first_inverse : ℕ → ℕ → ℕ → ℕ → ℕ
first_inverse p a zero b = 0
first_inverse p a (suc k) b =
    elim (eqb (a * b % p) 1) [ true ↦ b | false ↦ first_inverse p a k (suc b) ]

-- the inverse of a modulo p, for a prime p and a residue a other than 0
abbrev pub inverse_of : ℕ → ℕ → ℕ
inverse_of p a = first_inverse p a p 0
