-- Values of eliminations, remainders and reductions at points where the divisors are zero.
use Rattle.std.specs.Prelude.{◌≡◌, ◌≢◌, ◌↔◌, ℕ, List, [], map, All, Contains}
use Rattle.polynomials.specs.Primes.{IsPrime}
use Rattle.polynomials.specs.Polynomials.{Polynomial, IsPolynomial, ArePolynomials}
use Rattle.polynomials.specs.Views.{lead_in, initial_of}
use Rattle.zero_sets.specs.Domains.{Tables, IsPointOver, times_in, power_at, value_at}
use Rattle.zero_sets.specs.ZeroSets.{InZeroSet, InQuasiComponent}
use Rattle.division_rules.specs.Lists.{list_operations}
use Rattle.division_rules.specs.Points.{product_of_all}
use Rattle.division_rules.specs.PolynomialRows.{IsPolynomialRow}
use Rattle.division_rules.specs.Rows.{Row, elimination, sparse_remainder, turns, pseudo_remainder}
use Rattle.division_rules.specs.Units.{IsCombinationOf}
use Rattle.row_laws.specs.Words.{reduction_of}

-- what divisions by g in v of f do to the value of f, where g is zero at the point
pub record MultiplyValues
    (p n v : ℕ) (r : Tables) (xs : List ℕ) (f g : Row Polynomial) : Type 0 where
  -- an elimination multiplies it by the value of the lead of g
  pub by_elimination :
      value_at r xs (elimination (list_operations p n) v f g).first
      ≡ times_in r (value_at r xs (lead_in v g.first)) (value_at r xs f.first)
  -- a sparse remainder by some power of that
  pub by_sparse_remainder :
      (j : ℕ)
      × (value_at r xs (sparse_remainder (list_operations p n) v f g).first
      ≡ times_in r (power_at r (value_at r xs (lead_in v g.first)) j) (value_at r xs f.first))
  -- a pseudo-remainder by its power d - e + 1 for the degrees d and e
  pub by_pseudo_remainder :
      value_at r xs (pseudo_remainder (list_operations p n) v f g).first
      ≡ times_in r
      (power_at r (value_at r xs (lead_in v g.first))
      (turns (list_operations p n) v f.first g.first))
      (value_at r xs f.first)
  -- so that is zero where both are, and where the lead of g isn't zero only there
  pub keeps_zero :
      value_at r xs f.first ≡ r.nil
      → value_at r xs (pseudo_remainder (list_operations p n) v f g).first ≡ r.nil
  pub no_other_zero :
      value_at r xs (lead_in v g.first) ≢ r.nil
      → value_at r xs (pseudo_remainder (list_operations p n) v f g).first ≡ r.nil
      → value_at r xs f.first ≡ r.nil

-- at every point of a finite domain of the characteristic where the divisor is zero
abbrev pub DivisionsMultiplyValues : Type 0
DivisionsMultiplyValues =
    (p n v : ℕ) (r : Tables) (xs : List ℕ) (f g : Row Polynomial)
    → IsPrime p
    → IsPointOver p r xs
    → IsPolynomialRow p n f
    → IsPolynomialRow p n g
    → value_at r xs g.first ≡ r.nil
    → MultiplyValues p n v r xs f g

-- y is the value of a product of initials of the chain, each as often as need be, times x
abbrev pub IsMultipleByInitials : ℕ → ℕ → Tables → List ℕ → List Polynomial → ℕ → ℕ → Type 0
IsMultipleByInitials p n r xs chain x y =
    (js : List Polynomial)
    × All (Contains (map initial_of chain)) js
    × (y ≡ times_in r (value_at r xs (product_of_all (list_operations p n) js)) x)

-- where the chain is zero, a reduction by it multiplies the value by initials
abbrev pub ReductionsMultiplyValues : Type 0
ReductionsMultiplyValues =
    (p n : ℕ) (r : Tables) (xs : List ℕ) (chain : List Polynomial) (f : Polynomial)
    → IsPrime p
    → IsPointOver p r xs
    → ArePolynomials p n chain
    → IsPolynomial p n f
    → InZeroSet r xs chain
    → IsMultipleByInitials p n r xs chain (value_at r xs f)
    (value_at r xs (reduction_of p n chain f))

-- so it is zero where f is
abbrev pub ReductionsKeepZeros : Type 0
ReductionsKeepZeros =
    (p n : ℕ) (r : Tables) (xs : List ℕ) (chain : List Polynomial) (f : Polynomial)
    → IsPrime p
    → IsPointOver p r xs
    → ArePolynomials p n chain
    → IsPolynomial p n f
    → InZeroSet r xs chain
    → value_at r xs f ≡ r.nil
    → value_at r xs (reduction_of p n chain f) ≡ r.nil

-- and at points of the quasi-component exactly there
abbrev pub ReductionsHaveSameZeros : Type 0
ReductionsHaveSameZeros =
    (p n : ℕ) (r : Tables) (xs : List ℕ) (chain : List Polynomial) (f : Polynomial)
    → IsPrime p
    → IsPointOver p r xs
    → ArePolynomials p n chain
    → IsPolynomial p n f
    → InQuasiComponent r xs chain
    → (value_at r xs f ≡ r.nil) ↔ (value_at r xs (reduction_of p n chain f) ≡ r.nil)

-- so what reduces to 0 vanishes on the quasi-component
abbrev pub ReducedToZeroVanishes : Type 0
ReducedToZeroVanishes =
    (p n : ℕ) (r : Tables) (xs : List ℕ) (chain : List Polynomial) (f : Polynomial)
    → IsPrime p
    → IsPointOver p r xs
    → ArePolynomials p n chain
    → IsPolynomial p n f
    → InQuasiComponent r xs chain
    → reduction_of p n chain f ≡ []
    → value_at r xs f ≡ r.nil

-- a combination of generators is zero where they are
abbrev pub CombinationsKeepZeros : Type 0
CombinationsKeepZeros =
    (p n : ℕ) (r : Tables) (xs : List ℕ) (gs : List Polynomial) (f : Row Polynomial)
    → IsPrime p
    → IsPointOver p r xs
    → ArePolynomials p n gs
    → IsPolynomialRow p n f
    → IsCombinationOf (list_operations p n) gs f
    → InZeroSet r xs gs
    → value_at r xs f.first ≡ r.nil
