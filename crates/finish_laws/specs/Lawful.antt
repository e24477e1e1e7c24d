-- Lawful polynomials, chains and certificates: canonical, in the named variables, and with
-- exponents that fit.
use Rattle.std.specs.Prelude.{ℕ, ◌≤◌, List, ◌∷◌}
use Rattle.std.specs.List.{AllByRecursion}
use Rattle.polynomials.specs.Polynomials.{Polynomial, IsPolynomial}
use Rattle.polynomials.specs.Views.{degree_in, IsFreeOf}
use Rattle.polynomials.specs.Fits.{most_exponent}
use Rattle.zero_sets.specs.ZeroSets.{IsTriangular}
use Rattle.zero_sets.specs.Certificates.{Certificate}

-- a canonical polynomial in n variables modulo p, of which only the k least occur, and whose
-- degrees are no greater than the greatest exponent
pub record IsLawfulPolynomial (p n k : ℕ) (f : Polynomial) : Type 0 where
  pub canonical : IsPolynomial p n f
  pub named : (v : ℕ) → k ≤ v → IsFreeOf v f
  pub small : (v : ℕ) → degree_in v f ≤ most_exponent

-- each of them is one
abbrev pub AreLawfulPolynomials : ℕ → ℕ → ℕ → List Polynomial → Type 0
AreLawfulPolynomials p n k fs = AllByRecursion (IsLawfulPolynomial p n k) fs

-- a triangular set of them
pub record IsLawfulChain (p n k : ℕ) (chain : List Polynomial) : Type 0 where
  pub lawful : AreLawfulPolynomials p n k chain
  pub triangular : IsTriangular chain

-- a certificate of them
abbrev pub IsLawfulCertificate : ℕ → ℕ → ℕ → Certificate → Type 0
IsLawfulCertificate p n k c = AreLawfulPolynomials p n k (c.cofactor ∷ c.value ∷ c.below)

-- each is one
abbrev pub AreLawfulCertificates : ℕ → ℕ → ℕ → List Certificate → Type 0
AreLawfulCertificates p n k cs = AllByRecursion (IsLawfulCertificate p n k) cs
