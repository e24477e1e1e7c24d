-- The laws of division for canonical lists of terms over a prime field.
use Rattle.std.specs.Prelude.{◌≡◌, ◌≢◌, ◌↔◌, ℕ, ◌<◌, ◌≤◌, true, false, List, [], ◌∷◌, ◌++◌, Some, None, IfSome}
use Rattle.polynomials.specs.Primes.{IsPrime}
use Rattle.polynomials.specs.Polynomials.{Polynomial, IsPolynomial, ArePolynomials, product_of}
use Rattle.polynomials.specs.Views.{degree_in, is_constant}
use Rattle.polynomials.specs.Fits.{fits}
use Rattle.division_rules.specs.Operations.{power}
use Rattle.division_rules.specs.Quotients.{quotient_within, without_factors}
use Rattle.division_rules.specs.Factors.{IsProductByMembers}
use Rattle.division_rules.specs.Lists.{list_operations}
use Rattle.division_rules.specs.Rows.{Row, elimination, sparse_remainder, pseudo_remainder, reduction}
use Rattle.division_rules.specs.Within.{elimination_within, sparse_remainder_within, pseudo_remainder_within, reduction_within, power_of_within}
use Rattle.division_rules.specs.Chains.{EachRow}
use Rattle.division_rules.specs.RemainderRows.{remainder_rows}
use Rattle.division_rules.specs.RemainderRowsWithin.{remainder_rows_within}
use Rattle.division_rules.specs.PolynomialRows.{IsPolynomialRow, ArePolynomialRows, AreRemainderRows}
use Rattle.division_rules.specs.Triangular.{AreTriangular, HasLessDegree}

-- for b other than 0, q is the quotient of a by b within the width exactly where q is a canonical
-- polynomial whose product by b is a and fits
abbrev pub QuotientIsExact : Type 0
QuotientIsExact =
    (p n w : ℕ) (a b q : Polynomial)
    → IsPrime p
    → IsPolynomial p n a
    → IsPolynomial p n b
    → b ≢ []
    → (quotient_within p w a b ≡ Some q)
    ↔ (IsPolynomial p n q × (product_of p q b ≡ a) × (fits w q b ≡ true))

-- and there is none exactly where there is no such polynomial
abbrev pub QuotientIsNone : Type 0
QuotientIsNone =
    (p n w : ℕ) (a b : Polynomial)
    → IsPrime p
    → IsPolynomial p n a
    → IsPolynomial p n b
    → b ≢ []
    → (quotient_within p w a b ≡ None)
    ↔ ((q : Polynomial) → IsPolynomial p n q → product_of p q b ≡ a → fits w q b ≢ true)

-- nothing has a quotient by 0
abbrev pub NoQuotientByZero : Type 0
NoQuotientByZero = (p w : ℕ) (a : Polynomial) → quotient_within p w a [] ≡ None

-- what is left of f without the factors bs: a canonical polynomial of which f is the product by
-- members of bs, other than 0 where f is, and with no greater degree
pub record IsWithoutFactors (p n : ℕ) (bs : List Polynomial) (f g : Polynomial) : Type 0 where
  pub canonical : IsPolynomial p n g
  pub product : IsProductByMembers p n bs f g
  pub nonzero : f ≢ [] → g ≢ []
  pub degrees : (v : ℕ) → degree_in v g ≤ degree_in v f

-- the definition leaves that
abbrev pub FactorsAreDividedAway : Type 0
FactorsAreDividedAway =
    (p n w : ℕ) (bs : List Polynomial) (f : Polynomial)
    → IsPrime p
    → ArePolynomials p n bs
    → IsPolynomial p n f
    → IsWithoutFactors p n bs f (without_factors p w bs f)

-- and of f other than 0 nothing that the last factor still divides within the width, unless that is
-- constant
abbrev pub LastFactorIsGone : Type 0
LastFactorIsGone =
    (p n w : ℕ) (bs : List Polynomial) (b f : Polynomial)
    → IsPrime p
    → ArePolynomials p n bs
    → IsPolynomial p n b
    → is_constant b ≡ false
    → IsPolynomial p n f
    → f ≢ []
    → quotient_within p w (without_factors p w (bs ++ b ∷ []) f) b ≡ None

-- the steps of division make canonical polynomials of canonical ones
pub record KeepCanonical (p n : ℕ) : Type 0 where
  pub elimination :
      (v : ℕ) (f g : Row Polynomial)
      → IsPolynomialRow p n f
      → IsPolynomialRow p n g
      → IsPolynomialRow p n (elimination (list_operations p n) v f g)
  pub sparse_remainder :
      (v : ℕ) (f g : Row Polynomial)
      → IsPolynomialRow p n f
      → IsPolynomialRow p n g
      → IsPolynomialRow p n (sparse_remainder (list_operations p n) v f g)
  pub pseudo_remainder :
      (v : ℕ) (f g : Row Polynomial)
      → IsPolynomialRow p n f
      → IsPolynomialRow p n g
      → IsPolynomialRow p n (pseudo_remainder (list_operations p n) v f g)
  pub reduction :
      (chain : List (Row Polynomial)) (f : Row Polynomial)
      → ArePolynomialRows p n chain
      → IsPolynomialRow p n f
      → IsPolynomialRow p n (reduction (list_operations p n) chain f)
  pub remainder_rows :
      (w v : ℕ) (chain : List (Row Polynomial)) (t c : Row Polynomial)
      → ArePolynomialRows p n chain
      → IsPolynomialRow p n t
      → IsPolynomialRow p n c
      → AreRemainderRows p n (remainder_rows (list_operations p n) w v chain t c)

-- for every modulus of at least 2 and every number of variables
abbrev pub StepsKeepCanonical : Type 0
StepsKeepCanonical = (p n : ℕ) → 1 < p → KeepCanonical p n

-- the reduction by a triangular set has in each of its main variables less degree than the
-- polynomial with that main variable
abbrev pub ReductionIsReduced : Type 0
ReductionIsReduced =
    (p n : ℕ) (chain : List (Row Polynomial)) (f : Row Polynomial)
    → IsPrime p
    → ArePolynomialRows p n chain
    → IsPolynomialRow p n f
    → AreTriangular chain
    → EachRow (HasLessDegree (reduction (list_operations p n) chain f).first) chain

-- where each named product fits the width, a step gives what it gives without a limit
pub record AreUnlimited (p n w : ℕ) : Type 0 where
  pub elimination :
      (v : ℕ) (f g : Row Polynomial)
      → IfSome (elimination_within (list_operations p n) w v f g) (λ h.
      h ≡ elimination (list_operations p n) v f g)
  pub sparse_remainder :
      (v : ℕ) (f g : Row Polynomial)
      → IfSome (sparse_remainder_within (list_operations p n) w v f g) (λ h.
      h ≡ sparse_remainder (list_operations p n) v f g)
  pub pseudo_remainder :
      (v : ℕ) (f g : Row Polynomial)
      → IfSome (pseudo_remainder_within (list_operations p n) w v f g) (λ h.
      h ≡ pseudo_remainder (list_operations p n) v f g)
  pub reduction :
      (chain : List (Row Polynomial)) (f : Row Polynomial)
      → IfSome (reduction_within (list_operations p n) w chain f) (λ h.
      h ≡ reduction (list_operations p n) chain f)
  pub power :
      (f : Polynomial) (e : ℕ)
      → IfSome (power_of_within (list_operations p n) w f e) (λ h.
      h ≡ power (list_operations p n) f e)
  -- with quotients of the same width on both sides
  pub remainder_rows :
      (v : ℕ) (chain : List (Row Polynomial)) (t c : Row Polynomial)
      → IfSome (remainder_rows_within (list_operations p n) w v chain t c) (λ rows.
      rows ≡ remainder_rows (list_operations p n) w v chain t c)

-- for every modulus, number of variables and width
abbrev pub WithinIsUnlimited : Type 0
WithinIsUnlimited = (p n w : ℕ) → AreUnlimited p n w
