-- A polynomial and its coefficients in a variable determine each other.
use Rattle.std.specs.Prelude.{◌≡◌, ◌≢◌, ℕ, ◌-◌, ◌<◌, List, [], length, slice_get, IfSome}
use Rattle.polynomials.specs.Polynomials.{Polynomial, IsPolynomial, ArePolynomials}
use Rattle.polynomials.specs.Views.{AreFreeOf}
use Rattle.recursive_poly.specs.Recursive.{RecursivePolynomial, coefficients_in, recursive_in, polynomial_of}

-- a polynomial is the sum of its coefficients times the powers of the variable
abbrev pub CoefficientsDetermine : Type 0
CoefficientsDetermine =
    (p n v : ℕ) (f : Polynomial)
    → 1 < p
    → v < n
    → IsPolynomial p n f
    → polynomial_of p n (recursive_in v f) ≡ f

-- canonical polynomials in n variables modulo p without v, of which the last isn't 0
pub record AreCoefficients (p n v : ℕ) (cs : List Polynomial) : Type 0 where
  pub canonical : ArePolynomials p n cs
  pub free : AreFreeOf v cs
  pub ends : IfSome (slice_get cs (length cs - 1)) (λ c. c ≢ [])

-- the coefficients of a polynomial are such a list
abbrev pub CoefficientsAreFree : Type 0
CoefficientsAreFree =
    (p n v : ℕ) (f : Polynomial) → IsPolynomial p n f → AreCoefficients p n v (coefficients_in v f)

-- and such a list has the coefficients of its polynomial
pub record HasItsCoefficients (p n : ℕ) (r : RecursivePolynomial) : Type 0 where
  pub canonical : IsPolynomial p n (polynomial_of p n r)
  pub coefficients : coefficients_in r.variable (polynomial_of p n r) ≡ r.coefficients

abbrev pub EachListHasAPolynomial : Type 0
EachListHasAPolynomial =
    (p n : ℕ) (r : RecursivePolynomial)
    → 1 < p
    → r.variable < n
    → AreCoefficients p n r.variable r.coefficients
    → HasItsCoefficients p n r
