-- Negatives, differences and cancelling, for canonical polynomials.
use Rattle.std.proofs.Common.{ℕ, ◌<◌}
use Rattle.polynomials.specs.Rings.{Ring}
use Rattle.polynomials.proofs.PolynomialRing.{CanonicalPolynomial, polynomial_ring}

module _ (p n : ℕ) (many : 1 < p) where
  abbrev ring : Ring (CanonicalPolynomial p n)
  ring = polynomial_ring p n many
