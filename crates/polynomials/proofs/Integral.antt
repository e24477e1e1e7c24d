-- Polynomials over a prime field: products without zero divisors, and quotients.
use Rattle.std.proofs.Common.{◌≡◌, ◌≢◌, ℕ, ◌<◌, [], ◌∷◌, refl, ap, ◌∙◌, inl, inr, arith}
use Rattle.polynomials.specs.Primes.{IsPrime}
use Rattle.polynomials.specs.Polynomials.{Polynomial, IsPolynomial, product_of}
use Rattle.polynomials.specs.Laws.{QuotientIsUnique}
use Rattle.polynomials.specs.Rings.{IsIntegral}
use Rattle.polynomials.proofs.RingLaws.{times_cancel_left}
use Rattle.polynomials.proofs.PolynomialLaws.{product_of_comm}
use Rattle.polynomials.proofs.PolynomialRing.{canonical_path, polynomial_ring}
use Rattle.polynomials.proofs.FirstTerms.{no_zero_divisors}

-- 0 times anything is 0
pub zero-product_of : (p : ℕ) (g : Polynomial) → product_of p [] g ≡ []
zero-product_of p g = refl

-- and anything times 0
pub product_of-zero : (p : ℕ) (f : Polynomial) → product_of p f [] ≡ []
product_of-zero p [] = refl
product_of-zero p (t ∷ f) = product_of-zero p f

-- the ring of polynomials is integral
pub polynomial_ring_integral : (p n : ℕ) (many : 1 < p) → IsPrime p → IsIntegral (polynomial_ring p n many)
polynomial_ring_integral p n many prime f g e = elim (no_zero_divisors p n f.0 g.0 prime f.1 g.1 (ap (λ x. x.0) e)) [
  | inl zero_f ↦ inl (canonical_path p n _ _ zero_f)
  | inr zero_g ↦ inr (canonical_path p n _ _ zero_g)
]

-- factors other than 0 have a product other than 0
pub product_of_nonzero : (p n : ℕ) (f g : Polynomial) → IsPrime p → IsPolynomial p n f → IsPolynomial p n g → f ≢ [] → g ≢ [] → product_of p f g ≢ []
product_of_nonzero p n f g prime i j hf hg e = elim (no_zero_divisors p n f g prime i j e) [ inl z ↦ hf z | inr z ↦ hg z ]

-- the factors of a product other than 0 are not 0
pub factors_nonzero : (p : ℕ) (f g : Polynomial) → product_of p f g ≢ [] → (f ≢ []) × (g ≢ [])
factors_nonzero p f g h = (λ e. h (ap (λ x. product_of p x g) e), λ e. h (ap (product_of p f) e ∙ product_of-zero p f))

-- a factor other than 0 cancels
pub product_cancel_left : (p n : ℕ) (b q r : Polynomial) → IsPrime p → IsPolynomial p n b → IsPolynomial p n q → IsPolynomial p n r → b ≢ [] → product_of p b q ≡ product_of p b r → q ≡ r
product_cancel_left p n b q r prime ib iq ir nonzero e = ap (λ x. x.0) (times_cancel_left (polynomial_ring p n prime.many) (polynomial_ring_integral p n prime.many prime) (b, ib) (q, iq) (r, ir) (λ z. nonzero (ap (λ x. x.0) z)) (canonical_path p n _ _ e))

-- there is at most one quotient
pub quotient_is_unique : QuotientIsUnique
quotient_is_unique p n q r b prime iq ir ib nonzero e = product_cancel_left p n b q r prime ib iq ir nonzero (product_of_comm p positive n b q ib iq ∙ e ∙ product_of_comm p positive n r b ir ib)
  where
    positive : 0 < p
    positive = omega (arith, prime.many)
