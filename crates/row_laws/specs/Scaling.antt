-- Reductions of multiples by constants.
use Rattle.std.specs.Prelude.{◌≡◌, ◌↔◌, ℕ, ◌<◌, List, [], map}
use Rattle.polynomials.specs.Primes.{IsPrime}
use Rattle.polynomials.specs.Polynomials.{Polynomial, IsPolynomial, ArePolynomials, scaled, monic}
use Rattle.row_laws.specs.Words.{reduction_of}

-- the reduction of a multiple is the multiple of the reduction
abbrev pub ReductionsOfMultiples : Type 0
ReductionsOfMultiples =
    (p n k : ℕ) (chain : List Polynomial) (f : Polynomial)
    → IsPrime p
    → 0 < k
    → k < p
    → ArePolynomials p n chain
    → IsPolynomial p n f
    → reduction_of p n chain (scaled p k f) ≡ scaled p k (reduction_of p n chain f)

-- so a polynomial reduces to 0 exactly where its monic form does
abbrev pub MonicReducesAlike : Type 0
MonicReducesAlike =
    (p n : ℕ) (chain : List Polynomial) (f : Polynomial)
    → IsPrime p
    → ArePolynomials p n chain
    → IsPolynomial p n f
    → (reduction_of p n chain (monic p f) ≡ []) ↔ (reduction_of p n chain f ≡ [])

-- and exactly where it does by the monic forms of the divisors
abbrev pub MonicChainsReduceAlike : Type 0
MonicChainsReduceAlike =
    (p n : ℕ) (chain : List Polynomial) (f : Polynomial)
    → IsPrime p
    → ArePolynomials p n chain
    → IsPolynomial p n f
    → (reduction_of p n (map (monic p) chain) f ≡ []) ↔ (reduction_of p n chain f ≡ [])
