-- The system that is made from a number.
use Rattle.std.specs.Prelude.{ℕ, ◌+◌, ◌/◌, ◌%◌, List, [], ◌∷◌, map, codes}
use Rattle.std.specs.List.{range_with_len}
use Rattle.polynomials.specs.Polynomials.{Polynomial, constant_of, product_of, sum_of, variable_power}
use Rattle.system_text.specs.Lines.{TextSystem}

-- its prime
abbrev pub made_prime : ℕ
made_prime = 32003

-- the names of its variables
abbrev pub made_names : List (List ℕ)
made_names =
    codes "a" ∷ codes "b" ∷ codes "c" ∷ codes "d" ∷ codes "e" ∷ codes "f" ∷ codes "g" ∷ codes "h"
    ∷ []

-- a variable plus a number, times the next variable: from one to the next the variable is the next
-- of the first seven, and after seven the number is one more
abbrev pub made_polynomial : ℕ → ℕ → Polynomial
made_polynomial n i =
    product_of made_prime
    (variable_power n (i % 7 + 1) 1)
    (sum_of made_prime (variable_power n (i % 7) 1) (constant_of n (i / 7)))

-- the system of k such polynomials, in n exponents
abbrev pub made_system : ℕ → ℕ → TextSystem
made_system n k = record {
  prime = made_prime;
  names = made_names;
  inputs = map (made_polynomial n) (range_with_len 0 k);
  nonzero = [];
}
