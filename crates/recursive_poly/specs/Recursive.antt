-- A polynomial seen by its powers of one variable: coefficients that are polynomials in the others.
use Rattle.std.specs.Prelude.{ℕ, suc, ◌^◌, List, [], ◌∷◌, map}
use Rattle.std.specs.List.{range_with_len}
use Rattle.mono_words.specs.declared.mono.TheConstants.{VARS}
use Rattle.polynomials.specs.Polynomials.{Polynomial, sum_of, product_of, variable_power}
use Rattle.polynomials.specs.Views.{degree_in, coefficient_in}

-- a variable, and the coefficients of its powers, the constant one first
pub record RecursivePolynomial : Type 0 where
  pub variable : ℕ
  pub coefficients : List Polynomial

-- how many coefficients f has in v: none where it is 0, and else one more than its degree
abbrev pub coefficient_count : ℕ → Polynomial → ℕ
coefficient_count v [] = 0
coefficient_count v (t ∷ f) = suc (degree_in v (t ∷ f))

-- the coefficients of f in v, the constant one first and the lead last
abbrev pub coefficients_in : ℕ → Polynomial → List Polynomial
coefficients_in v f = map (λ k. coefficient_in v k f) (range_with_len 0 (coefficient_count v f))

-- f seen by its powers of v
abbrev pub recursive_in : ℕ → Polynomial → RecursivePolynomial
recursive_in v f = record { variable = v; coefficients = coefficients_in v f }

-- the sum of the members times the powers of v, in n variables modulo p, from the k-th power on
abbrev pub sum_by_powers : ℕ → ℕ → ℕ → ℕ → List Polynomial → Polynomial
sum_by_powers p n v k [] = []
sum_by_powers p n v k (c ∷ cs) =
    sum_of p (product_of p c (variable_power n v k)) (sum_by_powers p n v (suc k) cs)

-- the polynomial in n variables modulo p with these coefficients
abbrev pub polynomial_of : ℕ → ℕ → RecursivePolynomial → Polynomial
polynomial_of p n r = sum_by_powers p n r.variable 0 r.coefficients

-- the polynomial of this library with these coefficients: they are less than 2^32 over each field,
-- and no two summands share a monomial, so that none is reduced
abbrev pub whole : RecursivePolynomial → Polynomial
whole r = polynomial_of (2 ^ 32) VARS r
