-- Canonical polynomials over a prime field as a setting for the laws of division, with their values.
use Rattle.std.proofs.Common.{◌≢◌, ℕ, List, refl}
use Rattle.polynomials.specs.Primes.{IsPrime}
use Rattle.polynomials.specs.Rings.{Ring, HasCharacteristic, IsIntegral, value}
use Rattle.polynomials.proofs.PolynomialRing.{CanonicalPolynomial, polynomial_ring}
use Rattle.polynomials.proofs.Values.{value-one_of, value-sum_of, value-product_of}
use Rattle.division_rules.specs.Points.{IsValue}
use Rattle.division_rules.proofs.Settings.{ViewedRing, Evaluation}
use Rattle.division_rules.proofs.CanonicalViews.{canonical_views}
use Rattle.division_rules.proofs.ListLaws.{canonical_laws}

module _ (p n : ℕ) (prime : IsPrime p) where
  -- the ring of canonical polynomials, with its views and the laws of division
  abbrev pub polynomial_setting : ViewedRing (CanonicalPolynomial p n)
  polynomial_setting = record {
    ring = polynomial_ring p n prime.many;
    views = canonical_views p n prime.many;
    laws = canonical_laws p n prime;
  }

  module _ {B : Type 0} (k : Ring B) (characteristic : HasCharacteristic k p) (xs : List B) where
    -- values at a point are those of a homomorphism
    pub polynomial_value : IsValue (polynomial_ring p n prime.many) k (λ f. value k xs f.0)
    polynomial_value = record {
      val-nil = refl;
      val-one = value-one_of k xs n;
      val-plus = λ f g. value-sum_of k p characteristic xs f.0 g.0;
      val-times = λ f g. value-product_of k p characteristic xs f.0 g.0;
    }

    -- in a ring without zero divisors
    abbrev pub polynomial_evaluation : IsIntegral k → k.one ≢ k.nil → Evaluation polynomial_setting B
    polynomial_evaluation integral one_not_nil = record {
      values = k;
      val = λ f. value k xs f.0;
      is_value = polynomial_value;
      integral = integral;
      one_not_nil = one_not_nil;
    }
