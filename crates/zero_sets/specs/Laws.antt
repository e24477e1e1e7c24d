-- The laws of values at a point of a finite ring of the characteristic.
use Rattle.std.specs.Prelude.{◌≡◌, ◌≢◌, ◌↔◌, ℕ, ◌<◌, List, get_or}
use Rattle.polynomials.specs.Primes.{IsPrime}
use Rattle.polynomials.specs.Polynomials.{Polynomial, IsPolynomial, sum_of, difference_of, product_of, constant_of, monic}
use Rattle.polynomials.specs.Views.{degree_in, lead_in, tail_in, initial_of}
use Rattle.zero_sets.specs.Domains.{Tables, IsFiniteRing, IsPoint, plus_in, times_in, power_at, value_at}
use Rattle.zero_sets.specs.ZeroSets.{InZeroSet}
use Rattle.zero_sets.specs.Certificates.{Certificate, CertifiesInitial}

-- the value of a sum is the sum of the values
abbrev pub ValueOfSum : Type 0
ValueOfSum =
    (p : ℕ) (r : Tables) (xs : List ℕ) (f g : Polynomial)
    → IsFiniteRing p r
    → IsPoint r xs
    → value_at r xs (sum_of p f g) ≡ plus_in r (value_at r xs f) (value_at r xs g)

-- the value of a difference and that of what was taken away add to the value of the first
abbrev pub ValueOfDifference : Type 0
ValueOfDifference =
    (p n : ℕ) (r : Tables) (xs : List ℕ) (f g : Polynomial)
    → IsFiniteRing p r
    → IsPoint r xs
    → IsPolynomial p n g
    → plus_in r (value_at r xs (difference_of p f g)) (value_at r xs g) ≡ value_at r xs f

-- the value of a product is the product of the values
abbrev pub ValueOfProduct : Type 0
ValueOfProduct =
    (p : ℕ) (r : Tables) (xs : List ℕ) (f g : Polynomial)
    → IsFiniteRing p r
    → IsPoint r xs
    → value_at r xs (product_of p f g) ≡ times_in r (value_at r xs f) (value_at r xs g)

-- the value of f is that of its lead times the power of the coordinate, and that of its tail
abbrev pub ValueOfLeadAndTail : Type 0
ValueOfLeadAndTail =
    (p v : ℕ) (r : Tables) (xs : List ℕ) (f : Polynomial)
    → IsFiniteRing p r
    → IsPoint r xs
    → value_at r xs f
    ≡ plus_in r
    (times_in r (value_at r xs (lead_in v f)) (power_at r (get_or xs v r.one) (degree_in v f)))
    (value_at r xs (tail_in v f))

-- a constant other than 0 has a value other than 0
abbrev pub ConstantsAreNonZero : Type 0
ConstantsAreNonZero =
    (p n c : ℕ) (r : Tables) (xs : List ℕ)
    → IsPrime p
    → IsFiniteRing p r
    → IsPoint r xs
    → 0 < c
    → c < p
    → value_at r xs (constant_of n c) ≢ r.nil

-- a polynomial and its monic form have the same zeros
abbrev pub MonicKeepsZeros : Type 0
MonicKeepsZeros =
    (p n : ℕ) (r : Tables) (xs : List ℕ) (f : Polynomial)
    → IsPrime p
    → IsFiniteRing p r
    → IsPoint r xs
    → IsPolynomial p n f
    → (value_at r xs (monic p f) ≡ r.nil) ↔ (value_at r xs f ≡ r.nil)

-- at a zero of the chain the initial that is certified is zero only where the certificate's value
-- is
abbrev pub CertificatesShowInitials : Type 0
CertificatesShowInitials =
    (p n : ℕ) (r : Tables) (xs : List ℕ) (chain : List Polynomial) (c : Certificate)
    (t : Polynomial)
    → IsFiniteRing p r
    → IsPoint r xs
    → CertifiesInitial p n chain c t
    → InZeroSet r xs chain
    → value_at r xs (initial_of t) ≡ r.nil
    → value_at r xs c.value ≡ r.nil
