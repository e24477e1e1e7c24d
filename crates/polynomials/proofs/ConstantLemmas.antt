-- Constants, and products with them.
use Rattle.std.proofs.Common.{◌≡◌, ◌≢◌, ℕ, zero, suc, ◌<◌, [], map, replicate, append-nil, refl, sym, subst, arith}
use Rattle.polynomials.specs.Primes.{IsPrime}
use Rattle.polynomials.specs.Polynomials.{term, Polynomial, IsPolynomial, product_of, scaled, constant_of, term_product}
use Rattle.polynomials.specs.Views.{IsFreeOf}
use Rattle.polynomials.proofs.Canonical.{IsPolynomial-constant_of}
use Rattle.polynomials.proofs.SamePolynomials.{SameSums}
use Rattle.polynomials.proofs.SameSumsLemmas.{SameSums-constant_product, product_of_from_sums}
use Rattle.polynomials.proofs.MonicLemmas.{IsPolynomial-scaled}
use Rattle.polynomials.proofs.Powers.{one_is_free}

-- a constant other than 0 isn't 0
pub constant_of_nonzero : (n c : ℕ) → 0 < c → constant_of n c ≢ []
constant_of_nonzero n zero positive = λ e. omega arith
constant_of_nonzero n (suc c) positive = λ e. cc

-- no variable occurs in a constant
pub constant_of_free : (v n c : ℕ) → IsFreeOf v (constant_of n c)
constant_of_free v n zero = refl
constant_of_free v n (suc c) = one_is_free v n

-- a constant other than 0 times f multiplies the coefficients
pub constant_of-product_of : (p n c : ℕ) (f : Polynomial) → IsPrime p → 0 < c → c < p → IsPolynomial p n f → product_of p (constant_of n c) f ≡ scaled p c f
constant_of-product_of p n zero f prime positive small i = absurd (omega arith)
constant_of-product_of p n (suc c) f prime positive small i = sym (product_of_from_sums p n (omega (arith, prime.many)) (scaled p (suc c) f) (IsPolynomial-scaled p prime n (suc c) positive small f i) (constant_of n (suc c)) f (IsPolynomial-constant_of p n (suc c) small) i (subst (SameSums p (scaled p (suc c) f)) (sym (append-nil (map (term_product (term (replicate n 0) (suc c))) f))) (SameSums-constant_product p n (suc c) f i)))
