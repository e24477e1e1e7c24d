-- What divisions make of a polynomial, as identities of polynomials.
use Rattle.std.specs.Prelude.{◌≡◌, ℕ, suc, ◌-◌, List, length, map, All, Contains}
use Rattle.polynomials.specs.Primes.{IsPrime}
use Rattle.polynomials.specs.Polynomials.{Polynomial, IsPolynomial, ArePolynomials, sum_of, product_of}
use Rattle.polynomials.specs.Views.{degree_in, lead_in, initial_of}
use Rattle.polynomials.specs.Sums.{combination}
use Rattle.polynomials.specs.Fits.{power_of}
use Rattle.division_rules.specs.Lists.{list_operations}
use Rattle.division_rules.specs.Points.{product_of_all}
use Rattle.row_laws.specs.Words.{pseudo_remainder_of, reduction_of}

-- f, times the lead of g to the power d - e + 1 for the degrees d and e in v, is a multiple of g
-- and the pseudo-remainder
pub record IsPseudoDivision (p n v : ℕ) (f g : Polynomial) : Type 0 where
  pub quotient : Polynomial
  pub canonical : IsPolynomial p n quotient
  pub identity :
      product_of p (power_of p n (lead_in v g) (suc (degree_in v f - degree_in v g))) f
      ≡ sum_of p (product_of p quotient g) (pseudo_remainder_of p n v f g)

-- of all polynomials over a prime field
abbrev pub PseudoRemaindersDivide : Type 0
PseudoRemaindersDivide =
    (p n v : ℕ) (f g : Polynomial)
    → IsPrime p
    → IsPolynomial p n f
    → IsPolynomial p n g
    → IsPseudoDivision p n v f g

-- f, times a product of initials of the chain, is its reduction and a combination of the chain
pub record IsReductionBy (p n : ℕ) (chain : List Polynomial) (f : Polynomial) : Type 0 where
  pub factors : List Polynomial
  pub initials : All (Contains (map initial_of chain)) factors
  pub quotients : List Polynomial
  pub canonical : ArePolynomials p n quotients
  pub one_each : length quotients ≡ length chain
  pub identity :
      product_of p (product_of_all (list_operations p n) factors) f
      ≡ sum_of p (reduction_of p n chain f) (combination p quotients chain)

-- by all lists of polynomials over a prime field
abbrev pub ReductionsDivide : Type 0
ReductionsDivide =
    (p n : ℕ) (chain : List Polynomial) (f : Polynomial)
    → IsPrime p
    → ArePolynomials p n chain
    → IsPolynomial p n f
    → IsReductionBy p n chain f
