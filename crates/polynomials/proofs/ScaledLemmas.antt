-- Multiples by residues other than 0, in sums, differences and products over a prime field.
use Rattle.std.proofs.Common.{◌≡◌, ℕ, ◌<◌, [], ◌∷◌, refl, arith}
use Rattle.polynomials.specs.Primes.{IsPrime}
use Rattle.polynomials.specs.Polynomials.{Polynomial, IsPolynomial, product_of, scaled, constant_of}
use Rattle.polynomials.specs.Rings.{Ring}
use Rattle.polynomials.proofs.Canonical.{IsPolynomial-constant_of}
use Rattle.polynomials.proofs.PolynomialRing.{CanonicalPolynomial, polynomial_ring}
use Rattle.polynomials.proofs.ConstantLemmas.{constant_of-product_of}

-- a multiple is 0 only where f is
pub scaled_zero : (p c : ℕ) (f : Polynomial) → scaled p c f ≡ [] → f ≡ []
scaled_zero p c [] e = refl
scaled_zero p c (t ∷ f) e = cc

module _ (p n : ℕ) (prime : IsPrime p) (c : ℕ) (c_positive : 0 < c) (c_small : c < p) where
  abbrev ring : Ring (CanonicalPolynomial p n)
  ring = polynomial_ring p n prime.many

  positive : 0 < p
  positive = omega (arith, prime.many)

  -- the constant
  abbrev factor : CanonicalPolynomial p n
  factor = (constant_of n c, IsPolynomial-constant_of p n c c_small)

  as_product : (f : Polynomial) → IsPolynomial p n f → product_of p (constant_of n c) f ≡ scaled p c f
  as_product f i = constant_of-product_of p n c f prime c_positive c_small i
