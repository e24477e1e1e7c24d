-- The residues modulo a number, by their tables.
use Rattle.std.specs.Prelude.{ℕ, ◌+◌, ◌*◌, ◌%◌, List, map}
use Rattle.std.specs.List.{range_with_len, flat_map}
use Rattle.polynomials.specs.Primes.{IsPrime}
use Rattle.zero_sets.specs.Domains.{Tables, IsFiniteDomain}

-- the table of an operation on the numbers below n, row by row
abbrev pub table_of : ℕ → (ℕ → ℕ → ℕ) → List ℕ
table_of n f = flat_map (λ x. map (f x) (range_with_len 0 n)) (range_with_len 0 n)

-- the residues modulo p, with the remainders of sums and products
abbrev pub residues : ℕ → Tables
residues p = record {
  size = p;
  sums = table_of p (λ x y. (x + y) % p);
  products = table_of p (λ x y. x * y % p);
  nil = 0;
  one = 1;
}

-- so there is a finite domain of each characteristic that is prime
abbrev pub ResiduesAreADomain : Type 0
ResiduesAreADomain = (p : ℕ) → IsPrime p → IsFiniteDomain p (residues p)
