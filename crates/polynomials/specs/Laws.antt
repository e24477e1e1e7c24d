-- The laws of polynomials: no zero divisors over a prime field, degrees, leads, and what fits.
use Rattle.std.specs.Prelude.{◌≡◌, ◌≢◌, ◌⊎◌, ◌↔◌, ℕ, ◌+◌, ◌*◌, ◌%◌, ◌<◌, ◌≤◌, true, [], ◌∷◌, length, Some, Contains}
use Rattle.polynomials.specs.Primes.{IsPrime, IsInverse, field_primes, inverse_of}
use Rattle.polynomials.specs.Monomials.{monomial_product}
use Rattle.polynomials.specs.Polynomials.{Term, term, Polynomial, IsPolynomial, sum_of, product_of, variable_power, monic}
use Rattle.polynomials.specs.Views.{degree_in, lead_in, tail_in, main_var, IsFreeOf}
use Rattle.polynomials.specs.Fits.{most_exponent, fits, power_of, power_within}

-- over a prime field a product is 0 only where a factor is
abbrev pub NoZeroDivisors : Type 0
NoZeroDivisors =
    (p n : ℕ) (f g : Polynomial)
    → IsPrime p
    → IsPolynomial p n f
    → IsPolynomial p n g
    → product_of p f g ≡ []
    → (f ≡ []) ⊎ (g ≡ [])

-- there is at most one quotient by a polynomial other than 0
abbrev pub QuotientIsUnique : Type 0
QuotientIsUnique =
    (p n : ℕ) (q r b : Polynomial)
    → IsPrime p
    → IsPolynomial p n q
    → IsPolynomial p n r
    → IsPolynomial p n b
    → b ≢ []
    → product_of p q b ≡ product_of p r b
    → q ≡ r

-- the first term of a product is the product of the first terms
abbrev pub FirstTermOfProduct : Type 0
FirstTermOfProduct =
    (p n : ℕ) (t u : Term) (f g : Polynomial)
    → IsPrime p
    → IsPolynomial p n (t ∷ f)
    → IsPolynomial p n (u ∷ g)
    → (rest : Polynomial)
    × (product_of p (t ∷ f) (u ∷ g) ≡ term (monomial_product t.0 u.0) (t.1 * u.1 % p) ∷ rest)

-- degrees add
abbrev pub DegreeOfProduct : Type 0
DegreeOfProduct =
    (p n v : ℕ) (f g : Polynomial)
    → IsPrime p
    → IsPolynomial p n f
    → IsPolynomial p n g
    → f ≢ []
    → g ≢ []
    → degree_in v (product_of p f g) ≡ degree_in v f + degree_in v g

-- the lead of a product is the product of the leads
abbrev pub LeadOfProduct : Type 0
LeadOfProduct =
    (p n v : ℕ) (f g : Polynomial)
    → IsPrime p
    → IsPolynomial p n f
    → IsPolynomial p n g
    → lead_in v (product_of p f g) ≡ product_of p (lead_in v f) (lead_in v g)

-- lead and tail are polynomials, no v occurs in the lead, and the tail has the smaller degree
pub record AreLeadAndTail (p n v : ℕ) (f : Polynomial) : Type 0 where
  pub lead : IsPolynomial p n (lead_in v f)
  pub tail : IsPolynomial p n (tail_in v f)
  pub free : IsFreeOf v (lead_in v f)
  pub nonzero : f ≢ [] → lead_in v f ≢ []
  pub falls : 0 < degree_in v f → degree_in v (tail_in v f) < degree_in v f
  pub whole :
      v < n
      → sum_of p (product_of p (lead_in v f) (variable_power n v (degree_in v f))) (tail_in v f) ≡ f

-- a polynomial is its lead times a power of the variable, and its tail
abbrev pub LeadAndTail : Type 0
LeadAndTail = (p n v : ℕ) (f : Polynomial) → 1 < p → IsPolynomial p n f → AreLeadAndTail p n v f

-- the main variable occurs, and no greater one does
abbrev pub MainVariableIsGreatest : Type 0
MainVariableIsGreatest =
    (v : ℕ) (f : Polynomial)
    → (main_var f ≡ Some v) ↔ ((0 < degree_in v f) × ((w : ℕ) → v < w → IsFreeOf w f))

-- a variable that two polynomials are free of doesn't occur in their sum or product
abbrev pub FreenessIsKept : Type 0
FreenessIsKept =
    (p n v : ℕ) (f g : Polynomial)
    → IsPolynomial p n f
    → IsPolynomial p n g
    → IsFreeOf v f
    → IsFreeOf v g
    → IsFreeOf v (sum_of p f g) × IsFreeOf v (product_of p f g)

-- nor does one that doesn't occur in a product other than 0 occur in a factor
abbrev pub FactorsAreFree : Type 0
FactorsAreFree =
    (p n v : ℕ) (f g : Polynomial)
    → IsPrime p
    → IsPolynomial p n f
    → IsPolynomial p n g
    → product_of p f g ≢ []
    → IsFreeOf v (product_of p f g)
    → IsFreeOf v f × IsFreeOf v g

-- f divided by its first coefficient is a polynomial whose first coefficient is 1
abbrev pub MonicIsMonic : Type 0
MonicIsMonic =
    (p n : ℕ) (t : Term) (f : Polynomial)
    → IsPrime p
    → IsPolynomial p n (t ∷ f)
    → IsPolynomial p n (monic p (t ∷ f))
    × ((rest : Polynomial) × (monic p (t ∷ f) ≡ term t.0 1 ∷ rest))

-- what it is to fit, variable by variable
abbrev pub FitsInEachVariable : Type 0
FitsInEachVariable =
    (w : ℕ) (f g : Polynomial)
    → (fits w f g ≡ true)
    ↔ ((f ≡ [])
    ⊎ ((g ≡ [])
    ⊎ ((length f * length g ≤ w)
    × ((v : ℕ) → degree_in v f + degree_in v g ≤ most_exponent))))

-- a power within a width is the power
abbrev pub PowerWithinIsPower : Type 0
PowerWithinIsPower =
    (p n w e : ℕ) (f g : Polynomial) → power_within p n w f e ≡ Some g → g ≡ power_of p n f e

-- the numbers of the table are primes
abbrev pub FieldPrimesArePrimes : Type 0
FieldPrimesArePrimes = (p : ℕ) → Contains field_primes p → IsPrime p

-- each residue other than 0 has an inverse
abbrev pub InversesExist : Type 0
InversesExist = (p a : ℕ) → IsPrime p → 0 < a → a < p → IsInverse p a (inverse_of p a)

-- a prime that divides a product divides a factor
abbrev pub PrimeDividesAFactor : Type 0
PrimeDividesAFactor = (p a b : ℕ) → IsPrime p → a * b % p ≡ 0 → (a % p ≡ 0) ⊎ (b % p ≡ 0)
