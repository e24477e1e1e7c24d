-- What a polynomial has from a product that it is, over a prime field.
use Rattle.std.proofs.Common.{◌≡◌, ◌≢◌, ℕ, ◌+◌, [], sym, ap, ◌∙◌}
use Rattle.polynomials.specs.Primes.{IsPrime}
use Rattle.polynomials.specs.Polynomials.{Polynomial, IsPolynomial, product_of}
use Rattle.polynomials.specs.Views.{degree_in}
use Rattle.polynomials.proofs.Integral.{factors_nonzero}
use Rattle.polynomials.proofs.DegreesOfProducts.{degree_adds}

module _ (p n : ℕ) (q b a : Polynomial) (prime : IsPrime p) (iq : IsPolynomial p n q) (ib : IsPolynomial p n b) (product : product_of p q b ≡ a) (nonzero : a ≢ []) where
  -- quotient and divisor of what isn't 0 aren't 0
  quotient_and_divisor : (q ≢ []) × (b ≢ [])
  quotient_and_divisor = factors_nonzero p q b (λ e. nonzero (sym product ∙ e))

  -- the quotient isn't 0
  pub quotient_nonzero : q ≢ []
  quotient_nonzero = quotient_and_divisor.0

  -- nor is the divisor
  pub divisor_nonzero : b ≢ []
  divisor_nonzero = quotient_and_divisor.1

  -- degrees add, in each variable
  pub quotient_degree : (v : ℕ) → degree_in v a ≡ degree_in v q + degree_in v b
  quotient_degree v = ap (degree_in v) (sym product) ∙ degree_adds p n v prime q b iq ib quotient_nonzero divisor_nonzero
