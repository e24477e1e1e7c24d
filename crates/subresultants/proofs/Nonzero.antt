-- Negatives, powers, signs, psi and beta that aren't 0.
use Rattle.std.proofs.Common.{◌≡◌, ◌≢◌, ℕ, zero, suc, [], ◌∷◌, Option, Some, None, refl, sym, subst}
use Rattle.polynomials.specs.Primes.{IsPrime}
use Rattle.polynomials.specs.Polynomials.{Polynomial, IsPolynomial, negative_of, product_of}
use Rattle.polynomials.proofs.Integral.{product_of_nonzero}
use Rattle.division_rules.specs.Lists.{list_operations}
use Rattle.division_rules.specs.Operations.{power, sign}
use Rattle.division_rules.specs.Within.{and_then, times_within, power_of_within}
use Rattle.division_rules.proofs.CanonicalRows.{IsPolynomial-power_of}
use Rattle.division_rules.proofs.CanonicalRowsWithin.{IsPolynomial-power_of_within}
use Rattle.division_rules.proofs.WithinLimits.{Gives, gives-times, gives-power_of}

-- what a step within a width gives
pub gives_is : {B : Type 0} (m : Option B) (x y : B) → Gives m y → m ≡ Some x → x ≡ y
gives_is m x y h e = subst (λ o. Gives o y) e h

-- the negative of what isn't 0
pub negative_of_nonzero : (p : ℕ) (f : Polynomial) → f ≢ [] → negative_of p f ≢ []
negative_of_nonzero p [] some = absurd (some refl)
negative_of_nonzero p (t ∷ f) some = λ e. cc

module _ (p n : ℕ) (prime : IsPrime p) where
  -- signs
  pub sign_nonzero : (k : ℕ) → sign (list_operations p n) k ≢ []
  sign_nonzero zero = λ e. cc
  sign_nonzero (suc k) = negative_of_nonzero p (sign (list_operations p n) k) (sign_nonzero k)

  -- powers of what isn't 0
  power_of_nonzero : (f : Polynomial) (e : ℕ) → IsPolynomial p n f → f ≢ [] → power (list_operations p n) f e ≢ []
  power_of_nonzero f zero i some = λ e. cc
  power_of_nonzero f (suc zero) i some = some
  power_of_nonzero f (suc (suc e)) i some = product_of_nonzero p n (power (list_operations p n) f (suc e)) f prime (IsPolynomial-power_of p n prime.many f (suc e) i) i (power_of_nonzero f (suc e) i some) some

  module _ (w : ℕ) where
    -- within a width
    pub power_of_within_nonzero : (f : Polynomial) (e : ℕ) (x : Polynomial) → IsPolynomial p n f → f ≢ [] → power_of_within (list_operations p n) w f e ≡ Some x → x ≢ []
    power_of_within_nonzero f e x i some is = subst (λ y. y ≢ []) (sym (gives_is (power_of_within (list_operations p n) w f e) x (power (list_operations p n) f e) (gives-power_of (list_operations p n) w f e) is)) (power_of_nonzero f e i some)

    -- the product of what isn't 0 by a power
    pub power_times_nonzero : (l q : Polynomial) (d : ℕ) (b : Polynomial) → IsPolynomial p n l → l ≢ [] → IsPolynomial p n q → q ≢ [] → and_then (power_of_within (list_operations p n) w q d) (λ x. times_within (list_operations p n) w l x) ≡ Some b → b ≢ []
    power_times_nonzero l q d b il some_l iq some_q = go (power_of_within (list_operations p n) w q d) refl
      where
        go : (m : Option Polynomial) → power_of_within (list_operations p n) w q d ≡ m → and_then m (λ x. times_within (list_operations p n) w l x) ≡ Some b → b ≢ []
        go None is e = cc
        go (Some x) is e = subst (λ y. y ≢ []) (sym (gives_is (times_within (list_operations p n) w l x) b (product_of p l x) (gives-times (list_operations p n) w l x) e)) (product_of_nonzero p n l x prime il (IsPolynomial-power_of_within p n prime.many w q d x iq is) some_l (power_of_within_nonzero q d x iq some_q is))
