-- Powers of monomials whose exponents have 16 bits.
use Rattle.std.specs.Prelude.{ℕ, ◌*◌, cond, map, Option, Some, None}
use Rattle.polynomials.specs.Monomials.{Monomial}
use Rattle.polynomials.specs.Fits.{is_exponent_list}

-- the monomial, where its exponents have 16 bits
abbrev pub within_exponents : Monomial → Option Monomial
within_exponents m = cond (is_exponent_list m) (Some m) None

-- the monomial to the power e
abbrev pub monomial_power : Monomial → ℕ → Monomial
monomial_power m e = map (λ d. d * e) m
