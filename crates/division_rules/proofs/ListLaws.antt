-- Canonical polynomials over a prime field, with their views, meet the laws of division.
use Rattle.std.proofs.Common.{◌≡◌, ◌≢◌, ℕ, ◌<◌, true, false, [], ◌∷◌, Option, Some, None, refl, ap, arith}
use Rattle.polynomials.specs.Primes.{IsPrime}
use Rattle.polynomials.specs.Polynomials.{Polynomial, one_of, is_zero}
use Rattle.polynomials.specs.Views.{coefficient_in, main_var, IsFreeOf}
use Rattle.polynomials.proofs.CoefficientsOfOperations.{coefficient_in-sum_of}
use Rattle.polynomials.proofs.Degrees.{coefficient_in_free, lead_in_nonzero}
use Rattle.polynomials.proofs.Integral.{polynomial_ring_integral}
use Rattle.polynomials.proofs.PolynomialRing.{CanonicalPolynomial, canonical_path, polynomial_ring}
use Rattle.polynomials.proofs.MainVariables.{free_above_main_var, free_without_main_var}
use Rattle.polynomials.proofs.ExponentsBelow.{ExponentsBelow, ExponentsBelow-more, ExponentsBelow-none, ExponentsBelow-degree, ExponentsBelow-one, ExponentsBelow-sum_of, ExponentsBelow-negative_of, ExponentsBelow-product_of, ExponentsBelow-coefficient_in, ExponentsBelow-unreached, coefficient_in-from_bound, coefficient_in-product_below, coefficient_in-product_scale, variable_power-zero, ExponentsBelow-variable_power, ExponentsBelow-variable_power_other, coefficient_in-variable_power_reached}
use Rattle.division_rules.specs.Laws.{Laws}
use Rattle.division_rules.specs.Lists.{variable_or_zero}
use Rattle.division_rules.proofs.Quotients.{quotient_within_exact}
use Rattle.division_rules.proofs.CanonicalViews.{canonical_views, canonical_quotient_is}

-- the test for 0
pub zero_by_test : (f : Polynomial) → is_zero f ≡ true → f ≡ []
zero_by_test [] e = refl
zero_by_test (t ∷ f) e = cc

-- and that for what isn't
pub not_zero_by_test : (f : Polynomial) → is_zero f ≡ false → f ≢ []
not_zero_by_test [] e = cc
not_zero_by_test (t ∷ f) e = λ none. cc

-- 1 isn't 0
pub one_of_not_zero : (n : ℕ) → one_of n ≢ []
one_of_not_zero n e = cc

-- and no greater variable does
pub free_above_main : (f : Polynomial) (x : ℕ) → variable_or_zero (main_var f) < x → ExponentsBelow x 1 f
free_above_main f x less = (ExponentsBelow-one x f).1 (go (main_var f) refl less)
  where
    go : (o : Option ℕ) → main_var f ≡ o → variable_or_zero o < x → IsFreeOf x f
    go None e h = free_without_main_var f e x
    go (Some v) e h = free_above_main_var v x f e h

module _ (p n : ℕ) (prime : IsPrime p) where
  -- a prime is positive
  pub prime_positive : 0 < p
  prime_positive = omega (arith, prime.many)

  -- the laws of division
  abbrev pub canonical_laws : Laws (CanonicalPolynomial p n) (polynomial_ring p n prime.many) (canonical_views p n prime.many)
  canonical_laws = record {
    integral = polynomial_ring_integral p n prime.many prime;
    one_not_nil = λ e. one_of_not_zero n (ap (λ x. x.0) e);
    nil_by_test = λ f e. canonical_path p n _ _ (zero_by_test f.0 e);
    nonzero_by_test = λ f e none. not_zero_by_test f.0 e (ap (λ x. x.0) none);
    Under = λ v d f. ExponentsBelow v d f.0;
    under-nil = λ v d. tt;
    under-more = λ v d e f up h. ExponentsBelow-more v d e f.0 up h;
    under-none = λ v f h. canonical_path p n _ _ (ExponentsBelow-none v f.0 h);
    under-add = λ v d f g h i. ExponentsBelow-sum_of v p d f.0 g.0 h i;
    under-neg = λ v d f h. ExponentsBelow-negative_of v p d f.0 h;
    under-mul = λ v d e f g h i. ExponentsBelow-product_of v p d e f.0 g.0 h i;
    under-coefficient = λ x d v k f h. ExponentsBelow-coefficient_in x d v k f.0 h;
    coefficient-free = λ v k f. (ExponentsBelow-one v (coefficient_in v k f.0)).1 (coefficient_in_free v k f.0);
    coefficient-add = λ v k f g. canonical_path p n _ _ (coefficient_in-sum_of v k p n prime_positive f.0 g.0 f.1 g.1);
    coefficient-mul = λ v d e f g h i. canonical_path p n _ _ (coefficient_in-product_below p n v prime_positive d e f.0 g.0 f.1 g.1 h i);
    coefficient-scale = λ v k u f h. canonical_path p n _ _ (coefficient_in-product_scale p n v prime_positive k u.0 f.0 u.1 f.1 h);
    coefficient-top = λ v d f h e. ExponentsBelow-unreached v d f.0 h (ap (λ x. x.0) e);
    coefficient-above = λ v d e f up h. canonical_path p n _ _ (coefficient_in-from_bound v d e f.0 up h);
    degree-nil = λ v. refl;
    degree-under = λ v f. ExponentsBelow-degree v f.0;
    degree-top = λ v f some e. lead_in_nonzero v f.0 (λ none. some (canonical_path p n _ _ none)) (ap (λ x. x.0) e);
    power-under = λ v k. ExponentsBelow-variable_power n v k;
    power-coefficient = λ v k f h. canonical_path p n _ _ (coefficient_in-variable_power_reached p n v k f.0 f.1 h);
    power-zero = λ v. canonical_path p n _ _ (variable_power-zero n v);
    power-other = λ x v k other. ExponentsBelow-variable_power_other n x v k other;
    quotient-sound = λ w f b q e. canonical_path p n _ _ (quotient_within_exact p w f.0 b.0 q.0 (canonical_quotient_is p n prime.many w f b q e));
  }
