-- Powers of polynomials.
use Rattle.std.proofs.Common.{◌≡◌, ◌≢◌, ℕ, zero, suc, ◌<◌, [], Option, Some, None, refl, sym, ap, ◌∙◌, arith}
use Rattle.std.proofs.lemmas.Option.{same_Some}
use Rattle.polynomials.specs.Primes.{IsPrime}
use Rattle.polynomials.specs.Polynomials.{Polynomial, IsPolynomial, product_of, one_of}
use Rattle.polynomials.specs.Views.{IsFreeOf}
use Rattle.polynomials.specs.Fits.{power_of, product_so_far, power_within}
use Rattle.polynomials.specs.Rings.{power_in}
use Rattle.polynomials.specs.Laws.{PowerWithinIsPower}
use Rattle.polynomials.proofs.Canonical.{IsPolynomial-product_of, IsPolynomial-one_of}
use Rattle.polynomials.proofs.PolynomialLaws.{one_of-product_of, product_of_comm}
use Rattle.polynomials.proofs.PolynomialRing.{CanonicalPolynomial, polynomial_ring}
use Rattle.polynomials.proofs.Integral.{product_of_nonzero}
use Rattle.polynomials.proofs.FitsLemmas.{product_within_is}
use Rattle.polynomials.proofs.DegreesOfProducts.{product_is_free}

module _ (p n : ℕ) (many : 1 < p) where
  positive : 0 < p
  positive = omega arith

  -- powers are polynomials
  pub IsPolynomial-power_of : (f : Polynomial) (e : ℕ) → IsPolynomial p n f → IsPolynomial p n (power_of p n f e)
  IsPolynomial-power_of f zero i = IsPolynomial-one_of p n many
  IsPolynomial-power_of f (suc zero) i = i
  IsPolynomial-power_of f (suc (suc e)) i = IsPolynomial-product_of p n positive (power_of p n f (suc e)) f (IsPolynomial-power_of f (suc e) i) i

  -- the next power is the power times f
  pub power_of-next : (f : Polynomial) (e : ℕ) → IsPolynomial p n f → power_of p n f (suc e) ≡ product_of p (power_of p n f e) f
  power_of-next f zero i = sym (one_of-product_of p positive n many f i)
  power_of-next f (suc e) i = refl

  -- so powers are those of the ring of polynomials
  pub power_of-ring : (f : CanonicalPolynomial p n) (e : ℕ) → (power_in (polynomial_ring p n many) f e).0 ≡ power_of p n f.0 e
  power_of-ring f zero = refl
  power_of-ring f (suc e) = ap (product_of p f.0) (power_of-ring f e) ∙ product_of_comm p positive n f.0 (power_of p n f.0 e) f.1 (IsPolynomial-power_of f.0 e f.1) ∙ sym (power_of-next f.0 e f.1)

  -- over a prime field a power of what isn't 0 isn't 0
  pub power_of_nonzero : IsPrime p → (f : Polynomial) (e : ℕ) → IsPolynomial p n f → f ≢ [] → power_of p n f e ≢ []
  power_of_nonzero prime f zero i nonzero = λ e. cc
  power_of_nonzero prime f (suc zero) i nonzero = nonzero
  power_of_nonzero prime f (suc (suc e)) i nonzero = product_of_nonzero p n (power_of p n f (suc e)) f prime (IsPolynomial-power_of f (suc e) i) i (power_of_nonzero prime f (suc e) i nonzero) nonzero

-- no variable occurs in 1
pub one_is_free : (v n : ℕ) → IsFreeOf v (one_of n)
one_is_free v zero = refl
one_is_free zero (suc n) = refl
one_is_free (suc v) (suc n) = one_is_free v n

-- a power of a polynomial without v is without v
pub power_is_free : (p n v : ℕ) (f : Polynomial) (e : ℕ) → IsFreeOf v f → IsFreeOf v (power_of p n f e)
power_is_free p n v f zero h = one_is_free v n
power_is_free p n v f (suc zero) h = h
power_is_free p n v f (suc (suc e)) h = product_is_free p v (power_of p n f (suc e)) f (power_is_free p n v f (suc e) h) h

-- a product with what was made so far
product_so_far_is : (p w : ℕ) (f h : Polynomial) (o : Option Polynomial) → product_so_far p w f o ≡ Some h → (g : Polynomial) × (o ≡ Some g) × (product_of p g f ≡ h)
product_so_far_is p w f h None e = cc
product_so_far_is p w f h (Some g) e = (g, refl, (product_within_is p w g f h e).1)

-- a power within a width is the power
pub power_within_is_power : PowerWithinIsPower
power_within_is_power p n w zero f g e = sym (same_Some (one_of n) g e)
power_within_is_power p n w (suc zero) f g e = sym (same_Some f g e)
power_within_is_power p n w (suc (suc e)) f g h =
    let last = product_so_far_is p w f g (power_within p n w f (suc e)) h in
    sym last.2 ∙ ap (λ x. product_of p x f) (power_within_is_power p n w (suc e) f last.0 last.1)
