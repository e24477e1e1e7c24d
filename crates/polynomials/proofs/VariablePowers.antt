-- Powers of a variable, and products with them.
use Rattle.std.proofs.Common.{◌≡◌, ◌≢◌, ℕ, zero, suc, ◌<◌, [], ◌∷◌, cond, set, replicate, refl, ap, ◌∙◌, arith}
use Rattle.std.proofs.lemmas.Bool.{eq-eqb}
use Rattle.std.proofs.lemmas.List.{set-set}
use Rattle.polynomials.specs.Monomials.{exponent_of}
use Rattle.polynomials.specs.Polynomials.{term, Polynomial, IsPolynomial, one_of, variable_power}
use Rattle.polynomials.specs.Views.{coefficient_in, IsFreeOf}
use Rattle.polynomials.proofs.Exponents.{power_monomial, exponent_of-power_monomial, exponent_of-power_monomial_other}

-- zeros with a zero set are zeros
pub set-replicate : (n v : ℕ) → set {A = ℕ} (replicate n 0) v 0 ≡ replicate n 0
set-replicate zero v = refl
set-replicate (suc n) zero = refl
set-replicate (suc n) (suc v) = ap (λ m. 0 ∷ m) (set-replicate n v)

-- a power without its variable is 1
pub set-power_monomial : (n v e : ℕ) → set (power_monomial n v e) v 0 ≡ replicate n 0
set-power_monomial n v e = set-set (replicate n 0) v e 0 ∙ set-replicate n v

module _ (n v e : ℕ) where
  -- no other variable occurs
  pub variable_power_is_free : (w : ℕ) → w ≢ v → IsFreeOf w (variable_power n v e)
  variable_power_is_free w other =
      let exponent = exponent_of-power_monomial_other n v w e other in
      omega arith

  -- its coefficient is 1
  pub coefficient_in-variable_power : v < n → coefficient_in v e (variable_power n v e) ≡ one_of n
  coefficient_in-variable_power below = ap (λ b. cond b (term (set (power_monomial n v e) v 0) 1 ∷ []) []) (eq-eqb (exponent_of v (power_monomial n v e)) e (exponent_of-power_monomial n v e below)) ∙ ap (λ m. term m 1 ∷ []) (set-power_monomial n v e)

  module _ (p : ℕ) (many : 1 < p) (f : Polynomial) (i : IsPolynomial p n f) where
    positive : 0 < p
    positive = omega arith
